-- A message is decided.
use Rattle.std.proofs.Common.{◌≡◌, ◌≢◌, ℕ, ◌<◌, ◌⊎◌, ◌==◌, true, false, List, [], ◌∷◌, ◌++◌, length, nat_le, Option, Some, None, Result, Ok, Err, refl, sym, ap, ◌∙◌, subst, arith, inl, inr}
use Rattle.trace_report.proofs.TableLemmas.Common.{find, MatchOption, AllByRecursion, cond_both, and_parts, and_from, eqb-true, eq-eqb, leb-true, leb-false, true≢false, false≢true, All-from_recursion, Modem, Kind, Dsa, Dsc, Dsd, Code, RejectOther, RejectUnrecognizedSetting, RejectInvalidForContext, FlowId, Detail, Nothing, Errored, Request, Message, MessageFault, message_of, KeptEntry, same_kind, is_of, Verdict, Refused, Operator, IsSound, verdict, encoding_refusal, StepResult, repeat_result, new_unless, transaction_result, carried_out, is_of_cmts, message_handled, handle, MessageCheck, Unread, OfCmts, Repeated, KeptFull, Faulty, Judged, IsFirst, said_by, IsNoAck, ReadsAsRequest, IsCachedEntry, IsUnread, IsRefusedFor, IsRepeatOf, HoldsOf, AnswersOf, message_table, IsHandledBy}
use Rattle.tlv24.specs.Law.{AreBytes}
use Rattle.tlv24.specs.Flow.{GoesWrong}
use Rattle.tlv24.specs.declared.tlv.TlvFault.{TlvFault}
use Rattle.tlv24.specs.declared.tlv.TlvFault.TheVariants as tlv_faults
use Rattle.dsx_messages.specs.declared.message.Request.TheVariants as requests
use Rattle.dsx_messages.specs.declared.message.Message.TheVariants as messages
use Rattle.dsx_messages.specs.declared.fault.MessageFault.TheVariants as faults
use Rattle.dsx_messages.specs.Message.{IsFirstMessageFault, IsCutList, IsFaultyFlow}
use Rattle.dsx_messages.proofs.Grammar.{message_fault, message_memory}
use Rattle.operator_model.specs.declared.heard.Heard.TheVariants as heards
use Rattle.operator_model.specs.declared.output.Cause.TheVariants as causes
use Rattle.trace_report.proofs.TableLemmas.ListLemmas.{find-first, first_none, all_more}
use Rattle.trace_report.proofs.TableLemmas.FlowLemmas.{same_modems, modem_itself}
use Rattle.trace_report.proofs.TableLemmas.RequestLemmas.{request-decided}
use Rattle.trace_report.proofs.TableLemmas.TableLemmas.{IsDecided}

module _ (op : Operator) (modem : Modem) where
  abbrev Off : Result Message MessageFault → MessageCheck → Type 0
  Off reading check = ¬ HoldsOf check op modem reading

  abbrev Handled : Result Message MessageFault → StepResult → Type 0
  Handled reading ran = (check : MessageCheck) × IsHandledBy op modem reading check ran

  pub handled_by : (reading : Result Message MessageFault) (before : List MessageCheck) (check : MessageCheck) (after : List MessageCheck) (ran : StepResult)
      → message_table ≡ before ++ check ∷ after → AllByRecursion (Off reading) before → HoldsOf check op modem reading → AnswersOf check op modem reading ran
      → IsHandledBy op modem reading check ran
  handled_by reading before check after ran split none holds answers = record {
    first = record { before = before; after = after; split = split; none = All-from_recursion (Off reading) before none; holds = holds };
    answers = answers;
  }

  handled : (reading : Result Message MessageFault) (before : List MessageCheck) (check : MessageCheck) (after : List MessageCheck) (ran : StepResult)
      → message_table ≡ before ++ check ∷ after → AllByRecursion (Off reading) before → HoldsOf check op modem reading → AnswersOf check op modem reading ran → Handled reading ran
  handled reading before check after ran split none holds answers = (check, handled_by reading before check after ran split none holds answers)

  -- ---- whose entry it is

  mine : (tid : ℕ) (e : KeptEntry) → is_of modem tid e ≡ true → (e.modem ≡ modem) × (e.tid ≡ tid)
  mine tid e is = let both = and_parts _ (e.tid == tid) is in (same_modems e.modem modem both.0, eqb-true e.tid tid both.1)

  not_mine : (tid : ℕ) (e : KeptEntry) → is_of modem tid e ≡ false → ¬ ((e.modem ≡ modem) × (e.tid ≡ tid))
  not_mine tid e is both = true≢false (sym (and_from _ (e.tid == tid) (modem_itself e.modem modem both.0) (eq-eqb e.tid tid both.1)) ∙ is)

  kind_same : (a b : Kind) → same_kind a b ≡ true → a ≡ b
  kind_same Dsa Dsa is = refl
  kind_same Dsc Dsc is = refl
  kind_same Dsd Dsd is = refl
  kind_same Dsa Dsc is = absurd (false≢true is)
  kind_same Dsa Dsd is = absurd (false≢true is)
  kind_same Dsc Dsa is = absurd (false≢true is)
  kind_same Dsc Dsd is = absurd (false≢true is)
  kind_same Dsd Dsa is = absurd (false≢true is)
  kind_same Dsd Dsc is = absurd (false≢true is)

  kind_itself : (a : Kind) → same_kind a a ≡ true
  kind_itself Dsa = refl
  kind_itself Dsc = refl
  kind_itself Dsd = refl

  -- ---- a request

  -- of this kind under this transaction ID alone, and read as far as that; the rest of the table makes this of it
  module _ (reading : Result Message MessageFault) (kind : Kind) (tid : ℕ) (v : Verdict) (is : ReadsAsRequest reading kind tid)
      (only : (k : Kind) (n : ℕ) → ReadsAsRequest reading k n → (k ≡ kind) × (n ≡ tid)) (was_read : Off reading Unread)
      (rest : AllByRecursion (Off reading) (Unread ∷ OfCmts ∷ Repeated ∷ KeptFull ∷ []) → Handled reading (carried_out op modem kind tid v)) where
    of_modem : is_of_cmts tid ≡ false → AllByRecursion (Off reading) (Unread ∷ OfCmts ∷ [])
    of_modem low = (was_read, ((λ h. let same = (only h.0 h.1 h.2).1 in let high = h.3 in let least = leb-false 32768 tid low in absurd (omega arith)), tt))

    repeat_told : (entry : KeptEntry) → IsRepeatOf op modem kind entry (repeat_result op.state modem kind entry)
    repeat_told entry =
        cond_both (same_kind entry.kind kind) _ _ (IsRepeatOf op modem kind entry) (λ same. inl (kind_same entry.kind kind same, refl))
        (λ other. inr ((λ equal. true≢false (sym (ap (λ (k : Kind). same_kind k kind) equal ∙ kind_itself kind) ∙ other)), refl))

    new-handled : is_of_cmts tid ≡ false → (o : Option KeptEntry)
        → MatchOption o (AllByRecursion (λ e. ¬ ((e.modem ≡ modem) × (e.tid ≡ tid))) op.state.kept) (IsFirst (λ e. (e.modem ≡ modem) × (e.tid ≡ tid)) op.state.kept)
        → Handled reading (new_unless op modem kind tid v o)
    new-handled low (Some entry) first =
        handled reading (Unread ∷ OfCmts ∷ []) Repeated (KeptFull ∷ Faulty ∷ Judged ∷ []) _ refl (of_modem low)
        (kind, tid, entry, is, first) (kind, tid, entry, is, first, repeat_told entry)
    new-handled low None none =
        cond_both (nat_le op.row.transactions (length op.state.kept)) _ _ (Handled reading)
        (λ many. handled reading (Unread ∷ OfCmts ∷ Repeated ∷ []) KeptFull (Faulty ∷ Judged ∷ []) _ refl is_new
        (kind, tid, is, leb-true op.row.transactions (length op.state.kept) many) (kind, tid, is, refl))
        (λ few. rest (all_more (Off reading) (Unread ∷ OfCmts ∷ Repeated ∷ []) KeptFull is_new
        (λ h. let many = h.3 in let least = leb-false op.row.transactions (length op.state.kept) few in absurd (omega arith))))
      where
        is_new : AllByRecursion (Off reading) (Unread ∷ OfCmts ∷ Repeated ∷ [])
        is_new = all_more (Off reading) (Unread ∷ OfCmts ∷ []) Repeated (of_modem low)
            (λ h. first_none (λ (e : KeptEntry). (e.modem ≡ modem) × (e.tid ≡ tid)) op.state.kept none h.2
            (subst (λ (n : ℕ). IsCachedEntry op modem n h.2) (only h.0 h.1 h.3).1 h.4))

    transacted-handled : Handled reading (transaction_result op modem kind tid v)
    transacted-handled =
        cond_both (is_of_cmts tid) _ _ (Handled reading)
        (λ high. handled reading (Unread ∷ []) OfCmts (Repeated ∷ KeptFull ∷ Faulty ∷ Judged ∷ []) _ refl (was_read, tt)
        (kind, tid, is, leb-true 32768 tid high) (kind, tid, is, refl))
        (λ low. new-handled low (find (is_of modem tid) op.state.kept)
        (find-first (λ (e : KeptEntry). (e.modem ≡ modem) × (e.tid ≡ tid)) (is_of modem tid) (mine tid) (not_mine tid) op.state.kept))

  -- ---- by what is read

  read_so : (message : Message) → Off (Ok message) Unread
  read_so message h = by h.1
    where
      by : IsUnread (Ok message) h.0 → ⊥
      by (inl is) = cc (is.0)
      by (inr (inl is)) = cc (is.0)
      by (inr (inr is)) = cc (is.1)

  module _ (sound : IsSound op) (request : Request) (kind : Kind) (tid : ℕ) (is_kind : (said_by request).kind ≡ kind) (is_tid : (said_by request).tid ≡ tid) where
    judged : Handled (Ok (messages.Request request)) (transaction_result op modem kind tid (verdict op modem request))
    judged =
        transacted-handled (Ok (messages.Request request)) kind tid (verdict op modem request) (is_kind, is_tid) (λ k n is. (sym is.0 ∙ is_kind, sym is.1 ∙ is_tid))
        (read_so (messages.Request request)) (λ none. by none (request-decided op modem request sound))
      where
        by : AllByRecursion (Off (Ok (messages.Request request))) (Unread ∷ OfCmts ∷ Repeated ∷ KeptFull ∷ []) → IsDecided op modem (said_by request) (verdict op modem request)
            → Handled (Ok (messages.Request request)) (carried_out op modem kind tid (verdict op modem request))
        by none decided =
            handled (Ok (messages.Request request)) (Unread ∷ OfCmts ∷ Repeated ∷ KeptFull ∷ Faulty ∷ []) Judged [] _ refl
            (all_more (Off (Ok (messages.Request request))) (Unread ∷ OfCmts ∷ Repeated ∷ KeptFull ∷ []) Faulty none (λ h. cc (h.4))) (request, refl) (
              request,
              decided.0,
              verdict op modem request,
              refl,
              decided.1,
              ap (λ (k : Kind). carried_out op modem k tid (verdict op modem request)) (sym is_kind)
                  ∙ ap (λ (n : ℕ). carried_out op modem (said_by request).kind n (verdict op modem request)) (sym is_tid),
            )

  -- a fault behind the fixed part
  module _ (fault : MessageFault) (kind : Kind) (tid : ℕ) (code : Code) (detail : Detail) (is : ReadsAsRequest (Err fault) kind tid)
      (only : (k : Kind) (n : ℕ) → ReadsAsRequest (Err fault) k n → (k ≡ kind) × (n ≡ tid)) (was_read : Off (Err fault) Unread) (refused : IsRefusedFor fault code detail) where
    faulty : Handled (Err fault) (transaction_result op modem kind tid (Refused (record { kind = kind; tid = tid; code = code; detail = detail })))
    faulty =
        transacted-handled (Err fault) kind tid (Refused (record { kind = kind; tid = tid; code = code; detail = detail })) is only was_read
        (λ none. handled (Err fault) (Unread ∷ OfCmts ∷ Repeated ∷ KeptFull ∷ []) Faulty (Judged ∷ []) _ refl none
        (kind, tid, fault, is, refl) (kind, tid, fault, code, detail, is, refl, refused, refl))

  tlv_read : (tid : ℕ) (kind : Kind) (id : Option FlowId) (fault : TlvFault) → Off (Err (faults.Tlv tid kind id fault)) Unread
  tlv_read tid kind id fault h = by h.1
    where
      by : IsUnread (Err (faults.Tlv tid kind id fault)) h.0 → ⊥
      by (inl is) = cc (is.0)
      by (inr (inl is)) = cc (is.0)
      by (inr (inr is)) = cc (is.1)

  left_out_read : (tid : ℕ) (kind : Kind) (found : ℕ) → Off (Err (faults.LeftOut tid kind found)) Unread
  left_out_read tid kind found h = by h.1
    where
      by : IsUnread (Err (faults.LeftOut tid kind found)) h.0 → ⊥
      by (inl is) = cc (is.0)
      by (inr (inl is)) = cc (is.0)
      by (inr (inr is)) = cc (is.1)

  tlv-handled : (tid : ℕ) (kind : Kind) (id : Option FlowId) (fault : TlvFault) → fault ≢ tlv_faults.NoMemory
      → Handled (Err (faults.Tlv tid kind id fault)) (transaction_result op modem kind tid (Refused (encoding_refusal kind tid id fault)))
  tlv-handled tid kind id (tlv_faults.Cut place) some =
      faulty (faults.Tlv tid kind id (tlv_faults.Cut place)) kind tid RejectOther Nothing (refl, refl) (λ k n is. (sym is.0, sym is.1))
      (tlv_read tid kind id (tlv_faults.Cut place)) (refl, refl)
  tlv-handled tid kind id (tlv_faults.WrongLength subtype) some =
      faulty (faults.Tlv tid kind id (tlv_faults.WrongLength subtype)) kind tid RejectUnrecognizedSetting (Errored id subtype) (refl, refl) (λ k n is. (sym is.0, sym is.1))
      (tlv_read tid kind id (tlv_faults.WrongLength subtype)) (refl, refl)
  tlv-handled tid kind id (tlv_faults.Twice subtype) some =
      faulty (faults.Tlv tid kind id (tlv_faults.Twice subtype)) kind tid RejectInvalidForContext (Errored id subtype) (refl, refl) (λ k n is. (sym is.0, sym is.1))
      (tlv_read tid kind id (tlv_faults.Twice subtype)) (refl, refl)
  tlv-handled tid kind id (tlv_faults.Range subtype) some =
      faulty (faults.Tlv tid kind id (tlv_faults.Range subtype)) kind tid RejectInvalidForContext (Errored id subtype) (refl, refl) (λ k n is. (sym is.0, sym is.1))
      (tlv_read tid kind id (tlv_faults.Range subtype)) (refl, refl)
  tlv-handled tid kind id tlv_faults.NoMemory some = absurd (some refl)

  module _ (sound : IsSound op) where
    read-handled : (reading : Result Message MessageFault) → IsNoAck reading → reading ≢ Err faults.NoMemory
        → ((tid : ℕ) (kind : Kind) (id : Option FlowId) → reading ≢ Err (faults.Tlv tid kind id tlv_faults.NoMemory)) → Handled reading (message_handled op modem reading)
    read-handled (Err faults.Empty) no_ack no_memory no_tlv =
        handled (Err faults.Empty) [] Unread (OfCmts ∷ Repeated ∷ KeptFull ∷ Faulty ∷ Judged ∷ []) _ refl tt
        (causes.Empty, inl (refl, refl)) (causes.Empty, inl (refl, refl), refl)
    read-handled (Err (faults.NotOurs mtype)) no_ack no_memory no_tlv =
        handled (Err (faults.NotOurs mtype)) [] Unread (OfCmts ∷ Repeated ∷ KeptFull ∷ Faulty ∷ Judged ∷ []) _ refl tt
        (causes.NotOurs, inr (inr (mtype, refl, refl))) (causes.NotOurs, inr (inr (mtype, refl, refl)), refl)
    read-handled (Err faults.Short) no_ack no_memory no_tlv =
        handled (Err faults.Short) [] Unread (OfCmts ∷ Repeated ∷ KeptFull ∷ Faulty ∷ Judged ∷ []) _ refl tt
        (causes.Short, inr (inl (refl, refl))) (causes.Short, inr (inl (refl, refl)), refl)
    read-handled (Err (faults.Tlv tid kind id fault)) no_ack no_memory no_tlv =
        tlv-handled tid kind id fault (λ is. no_tlv tid kind id (ap (λ (f : TlvFault). Err (faults.Tlv tid kind id f)) is))
    read-handled (Err (faults.LeftOut tid kind found)) no_ack no_memory no_tlv =
        faulty (faults.LeftOut tid kind found) kind tid RejectUnrecognizedSetting Nothing (refl, refl) (λ k n is. (sym is.0, sym is.1))
        (left_out_read tid kind found) (refl, refl)
    read-handled (Err faults.NoMemory) no_ack no_memory no_tlv = absurd (no_memory refl)
    read-handled (Ok (messages.Ack kind tid code)) no_ack no_memory no_tlv = absurd (no_ack kind tid code refl)
    read-handled (Ok (messages.Request (requests.Dsa tid encodings))) no_ack no_memory no_tlv = judged sound (requests.Dsa tid encodings) Dsa tid refl refl
    read-handled (Ok (messages.Request (requests.Dsc tid encodings))) no_ack no_memory no_tlv = judged sound (requests.Dsc tid encodings) Dsc tid refl refl
    read-handled (Ok (messages.Request (requests.Dsd tid sfid))) no_ack no_memory no_tlv = judged sound (requests.Dsd tid sfid) Dsd tid refl refl

-- no fault of a TLV is want of memory
tlv_memory : (bytes : List ℕ) → AreBytes bytes → (tid : ℕ) (kind : Kind) (id : Option FlowId) → message_of bytes ≢ Err (faults.Tlv tid kind id tlv_faults.NoMemory)
tlv_memory bytes are tid kind id is = by (message_fault bytes (faults.Tlv tid kind id tlv_faults.NoMemory) are is)
  where
    by : IsFirstMessageFault bytes (faults.Tlv tid kind id tlv_faults.NoMemory) → ⊥
    by first = of first.2
      where
        of : (IsCutList first.0 id tlv_faults.NoMemory) ⊎ (IsFaultyFlow first.0 kind id tlv_faults.NoMemory) → ⊥
        of (inl cut) = let place = cut.fault_is in cc
        of (inr flow) = subst (λ (f : TlvFault). GoesWrong flow.first.before flow.first.rest f) (sym flow.fault_is) flow.first.wrong

pub bytes-handled : (op : Operator) (modem : Modem) (bytes : List ℕ) → IsSound op → AreBytes bytes → IsNoAck (message_of bytes) → Handled op modem (message_of bytes) (handle op modem (heards.Message bytes))
bytes-handled op modem bytes sound are no_ack = read-handled op modem sound (message_of bytes) no_ack (message_memory bytes are) (tlv_memory bytes are)

-- a type that is left out, where nothing is kept
pub left_out_handled : (op : Operator) (modem : Modem) (tid : ℕ) (kind : Kind) (found : ℕ) → tid < 32768 → op.state.kept ≡ [] → 0 < op.row.transactions
    → IsHandledBy op modem (Err (faults.LeftOut tid kind found)) Faulty
    (carried_out op modem kind tid (Refused (record { kind = kind; tid = tid; code = RejectUnrecognizedSetting; detail = Nothing })))
left_out_handled op modem tid kind found low nothing some =
    handled_by op modem (Err (faults.LeftOut tid kind found)) (Unread ∷ OfCmts ∷ Repeated ∷ KeptFull ∷ []) Faulty (Judged ∷ [])
    (carried_out op modem kind tid (Refused (record { kind = kind; tid = tid; code = RejectUnrecognizedSetting; detail = Nothing }))) refl (
      left_out_read op modem tid kind found,
      (
        (λ h. let high = h.3 in let same = h.2.1 in absurd (omega arith)),
        (
          (λ h. first_none (λ (e : KeptEntry). (e.modem ≡ modem) × (e.tid ≡ h.1)) [] tt h.2 (subst (λ (kept : List KeptEntry). IsFirst (λ e. (e.modem ≡ modem) × (e.tid ≡ h.1)) kept h.2) nothing h.4)),
          ((λ h. let many = h.3 in let none = ap (λ (kept : List KeptEntry). length kept) nothing in absurd (omega arith)), tt),
        ),
      ),
    )
    (kind, tid, faults.LeftOut tid kind found, (refl, refl), refl)
    (kind, tid, faults.LeftOut tid kind found, RejectUnrecognizedSetting, Nothing, (refl, refl), refl, (refl, refl), refl)
