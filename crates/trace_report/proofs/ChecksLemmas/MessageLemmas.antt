-- Each test of a check of a message decides whether the check holds, and the first that is true decides the message.
use Rattle.std.proofs.Common.{◌≡◌, ◌==◌, ℕ, ◌≤◌, ◌&&◌, true, List, length, nat_le, Option, Some, None, IfSome, Ok, Err, is_some, unwrap_or, refl, sym, ap, ◌∙◌, subst, inl, inr}
use Rattle.trace_report.proofs.ChecksLemmas.Common.{Any, find, MatchOption, Decides, AllByRecursion, list_any, false≢true, true≢false, and_parts, and_from, eqb-true, eq-eqb, leb-true, le-leb, Modem, Kind, same_modem, Operator, IsSound, IsFirst, said_by, find-first, first_one, first_contains, none_any, any_from, same_modems, modem_itself}
use Rattle.tlv24.specs.Law.{AreBytes}
use Rattle.dsx_messages.specs.declared.message.Message.TheVariants as messages
use Rattle.dsx_messages.specs.declared.fault.MessageFault.{MessageFault}
use Rattle.dsx_messages.specs.declared.fault.MessageFault.TheVariants as faults
use Rattle.dsx_messages.specs.Reading.{message_of}
use Rattle.transactions.specs.declared.entry.KeptEntry.{KeptEntry}
use Rattle.transactions.specs.Entry.{is_of}
use Rattle.operator_model.specs.declared.heard.Heard.TheVariants as heards
use Rattle.operator_model.specs.declared.output.Cause.{Cause}
use Rattle.operator_model.specs.declared.output.Cause.TheVariants as causes
use Rattle.operator_model.specs.Handle.{handle}
use Rattle.trace_report.specs.table.Messages.{Reading, IsNoAck, ReadsAsRequest, IsCachedEntry, IsUnread, HoldsOf, message_table, IsHandledBy}
use Rattle.trace_report.specs.declared.table.check.MessageCheck.{MessageCheck}
use Rattle.trace_report.specs.declared.table.check.MessageCheck.TheVariants.{Unread, OfCmts, Repeated, KeptFull, Faulty, Judged}
use Rattle.trace_report.proofs.TableLemmas.MessageLemmas.{bytes-handled}
use Rattle.trace_report.proofs.ChecksLemmas.ListLemmas.{any_decides}
use Rattle.trace_report.specs.checks.Messages.{HasNoCheck, transaction_in, is_unread, is_of_cmts_in, is_kept_in, is_faulty, is_request, does_hold_of, message_test}

-- ---- the transaction of a request

transaction_from : (reading : Reading) (kind : Kind) (tid : ℕ) → ReadsAsRequest reading kind tid → transaction_in reading ≡ Some (kind, tid)
transaction_from (Ok (messages.Request request)) kind tid is = let k = is.0 in let n = is.1 in cc
transaction_from (Ok (messages.Ack k n code)) kind tid is = absurd is
transaction_from (Err (faults.Tlv n k id fault)) kind tid is = let k = is.0 in let n = is.1 in cc
transaction_from (Err (faults.LeftOut n k found)) kind tid is = let k = is.0 in let n = is.1 in cc
transaction_from (Err faults.Empty) kind tid is = absurd is
transaction_from (Err (faults.NotOurs mtype)) kind tid is = absurd is
transaction_from (Err faults.Short) kind tid is = absurd is
transaction_from (Err faults.NoMemory) kind tid is = absurd is

same_parts : (a b : Kind × ℕ) → Some a ≡ Some b → (a.0 ≡ b.0) × (a.1 ≡ b.1)
same_parts a b is = (ap (λ (o : Option (Kind × ℕ)). (unwrap_or o a).0) is, ap (λ (o : Option (Kind × ℕ)). (unwrap_or o a).1) is)

transaction_to : (reading : Reading) (kind : Kind) (tid : ℕ) → transaction_in reading ≡ Some (kind, tid) → ReadsAsRequest reading kind tid
transaction_to (Ok (messages.Request request)) kind tid is = same_parts ((said_by request).kind, (said_by request).tid) (kind, tid) is
transaction_to (Ok (messages.Ack k n code)) kind tid is = cc
transaction_to (Err (faults.Tlv n k id fault)) kind tid is = same_parts (k, n) (kind, tid) is
transaction_to (Err (faults.LeftOut n k found)) kind tid is = same_parts (k, n) (kind, tid) is
transaction_to (Err faults.Empty) kind tid is = cc
transaction_to (Err (faults.NotOurs mtype)) kind tid is = cc
transaction_to (Err faults.Short) kind tid is = cc
transaction_to (Err faults.NoMemory) kind tid is = cc

-- ---- tests of what was read

unread_from : (reading : Reading) (cause : Cause) → IsUnread reading cause → is_unread reading ≡ true
unread_from reading cause (inl is) = ap is_unread is.0
unread_from reading cause (inr (inl is)) = ap is_unread is.0
unread_from reading cause (inr (inr is)) = ap is_unread is.1

unread_to : (reading : Reading) → is_unread reading ≡ true → (cause : Cause) × IsUnread reading cause
unread_to (Ok message) is = absurd (false≢true is)
unread_to (Err faults.Empty) is = (causes.Empty, inl (refl, refl))
unread_to (Err (faults.NotOurs mtype)) is = (causes.NotOurs, inr (inr (mtype, refl, refl)))
unread_to (Err faults.Short) is = (causes.Short, inr (inl (refl, refl)))
unread_to (Err (faults.Tlv n k id fault)) is = absurd (false≢true is)
unread_to (Err (faults.LeftOut n k found)) is = absurd (false≢true is)
unread_to (Err faults.NoMemory) is = absurd (false≢true is)

faulty_from : (fault : MessageFault) (kind : Kind) (tid : ℕ) → ReadsAsRequest (Err fault) kind tid → is_faulty (Err fault) ≡ true
faulty_from (faults.Tlv n k id fault) kind tid is = refl
faulty_from (faults.LeftOut n k found) kind tid is = refl
faulty_from faults.Empty kind tid is = absurd is
faulty_from (faults.NotOurs mtype) kind tid is = absurd is
faulty_from faults.Short kind tid is = absurd is
faulty_from faults.NoMemory kind tid is = absurd is

module _ (op : Operator) (modem : Modem) where
  faulty_to : (reading : Reading) → is_faulty reading ≡ true → HoldsOf Faulty op modem reading
  faulty_to (Err (faults.Tlv n k id fault)) is = (k, n, faults.Tlv n k id fault, (refl, refl), refl)
  faulty_to (Err (faults.LeftOut n k found)) is = (k, n, faults.LeftOut n k found, (refl, refl), refl)
  faulty_to (Ok message) is = absurd (false≢true is)
  faulty_to (Err faults.Empty) is = absurd (false≢true is)
  faulty_to (Err (faults.NotOurs mtype)) is = absurd (false≢true is)
  faulty_to (Err faults.Short) is = absurd (false≢true is)
  faulty_to (Err faults.NoMemory) is = absurd (false≢true is)

  judged_to : (reading : Reading) → is_request reading ≡ true → HoldsOf Judged op modem reading
  judged_to (Ok (messages.Request request)) is = (request, refl)
  judged_to (Ok (messages.Ack k n code)) is = absurd (false≢true is)
  judged_to (Err fault) is = absurd (false≢true is)

-- ---- what is kept

module _ (modem : Modem) (tid : ℕ) where
  abbrev IsOf : KeptEntry → Type 0
  IsOf entry = (entry.modem ≡ modem) × (entry.tid ≡ tid)

  of_decides : (entry : KeptEntry) → Decides (is_of modem tid entry) (IsOf entry)
  of_decides entry = (
    (λ is. let both = and_parts (same_modem entry.modem modem) (entry.tid == tid) is in (same_modems entry.modem modem both.0, eqb-true entry.tid tid both.1)),
    (λ is. and_from (same_modem entry.modem modem) (entry.tid == tid) (modem_itself entry.modem modem is.0) (eq-eqb entry.tid tid is.1)),
  )

  kept_to : (kept : List KeptEntry) → Any IsOf kept → (entry : KeptEntry) × IsFirst IsOf kept entry
  kept_to kept any =
      by (find (is_of modem tid) kept)
      (find-first IsOf (is_of modem tid) (λ e. (of_decides e).0) (λ e is_false is. true≢false (sym ((of_decides e).1 is) ∙ is_false)) kept)
    where
      by : (o : Option KeptEntry) → MatchOption o (AllByRecursion (λ e. ¬ IsOf e) kept) (IsFirst IsOf kept) → (entry : KeptEntry) × IsFirst IsOf kept entry
      by None none = absurd (none_any IsOf kept none any)
      by (Some entry) first = (entry, first)

  kept_decides : (kept : List KeptEntry) → Decides (list_any (is_of modem tid) kept) ((entry : KeptEntry) × IsFirst IsOf kept entry)
  kept_decides kept =
      let any = any_decides (is_of modem tid) IsOf of_decides kept in (
        (λ is. kept_to kept (any.0 is)),
        (λ first. any.1 (any_from IsOf kept first.0 (first_contains IsOf kept first.0 first.1) first.1.holds)),
      )

-- ---- each check

module _ (op : Operator) (modem : Modem) (reading : Reading) where
  abbrev HoldsSo : MessageCheck → Type 0
  HoldsSo check = HoldsOf check op modem reading

  abbrev Right : MessageCheck → Type 0
  Right check = Decides (does_hold_of check op modem reading) (HoldsSo check)

  -- a check of the transaction: there is one, and this holds of its ID
  abbrev HoldsOfTid : (ℕ → Type 0) → Type 0
  HoldsOfTid P = (kind : Kind) × (tid : ℕ) × ReadsAsRequest reading kind tid × P tid

  none_of : (P : ℕ → Type 0) → transaction_in reading ≡ None → ¬ HoldsOfTid P
  none_of P none h = let some = transaction_from reading h.0 h.1 h.2 in cc

  tid_of : (P : ℕ → Type 0) (t : Kind × ℕ) → transaction_in reading ≡ Some t → HoldsOfTid P → P t.1
  tid_of P t is h = subst P (same_parts (h.0, h.1) t (sym (transaction_from reading h.0 h.1 h.2) ∙ is)).1 h.3

  of_tid : (P : ℕ → Type 0) (t : Kind × ℕ) → transaction_in reading ≡ Some t → P t.1 → HoldsOfTid P
  of_tid P t is holds = (t.0, t.1, transaction_to reading t.0 t.1 is, holds)

  cmts_right : (o : Option (Kind × ℕ)) → transaction_in reading ≡ o → Decides (is_of_cmts_in o) (HoldsSo OfCmts)
  cmts_right None none = ((λ is. absurd (false≢true is)), (λ h. absurd (none_of (λ n. 32768 ≤ n) none h)))
  cmts_right (Some t) is = (
    (λ high. of_tid (λ n. 32768 ≤ n) t is (leb-true 32768 t.1 high)),
    (λ h. le-leb 32768 t.1 (tid_of (λ n. 32768 ≤ n) t is h)),
  )

  full_right : (o : Option (Kind × ℕ)) → transaction_in reading ≡ o → Decides (is_some o && nat_le op.row.transactions (length op.state.kept)) (HoldsSo KeptFull)
  full_right None none = ((λ is. absurd (false≢true is)), (λ h. absurd (none_of (λ _. op.row.transactions ≤ length op.state.kept) none h)))
  full_right (Some t) is = (
    (λ many. of_tid (λ _. op.row.transactions ≤ length op.state.kept) t is (leb-true op.row.transactions (length op.state.kept) many)),
    (λ h. le-leb op.row.transactions (length op.state.kept) h.3),
  )

  abbrev IsKeptOf : ℕ → Type 0
  IsKeptOf tid = (entry : KeptEntry) × IsCachedEntry op modem tid entry

  repeated_right : (o : Option (Kind × ℕ)) → transaction_in reading ≡ o → Decides (is_kept_in op modem o) (HoldsSo Repeated)
  repeated_right None none = ((λ is. absurd (false≢true is)), (λ h. absurd (none_of IsKeptOf none (h.0, h.1, h.3, (h.2, h.4)))))
  repeated_right (Some t) is =
      let decides = kept_decides modem t.1 op.state.kept in (
        (λ any. let h = of_tid IsKeptOf t is (decides.0 any) in (h.0, h.1, h.3.0, h.2, h.3.1)),
        (λ h. decides.1 (tid_of IsKeptOf t is (h.0, h.1, h.3, (h.2, h.4)))),
      )

  pub message_right : (check : MessageCheck) → Right check
  message_right Unread = (unread_to reading, (λ h. unread_from reading h.0 h.1))
  message_right OfCmts = cmts_right (transaction_in reading) refl
  message_right Repeated = repeated_right (transaction_in reading) refl
  message_right KeptFull = full_right (transaction_in reading) refl
  message_right Faulty = (
    faulty_to op modem reading,
    (λ h. ap is_faulty h.4 ∙ faulty_from h.2 h.0 h.1 (subst (λ (r : Reading). ReadsAsRequest r h.0 h.1) h.4 h.3)),
  )
  message_right Judged = (judged_to op modem reading, (λ h. ap is_request h.1))

  -- ---- the first

  abbrev found : Option MessageCheck
  found = find (message_test op modem reading) message_table

  message_found : MatchOption found (AllByRecursion (λ c. ¬ HoldsSo c) message_table) (IsFirst HoldsSo message_table)
  message_found =
      find-first HoldsSo (message_test op modem reading) (λ c. (message_right c).0)
      (λ c is_false holds. true≢false (sym ((message_right c).1 holds) ∙ is_false)) message_table

  pub message_first : (o : Option MessageCheck) → o ≡ found → IfSome o (IsFirst HoldsSo message_table)
  message_first None is = tt
  message_first (Some check) is =
      subst (λ (o : Option MessageCheck). MatchOption o (AllByRecursion (λ c. ¬ HoldsSo c) message_table) (IsFirst HoldsSo message_table)) (sym is) message_found

-- an acknowledgement has no table
module _ (op : Operator) (modem : Modem) where
  none_from : (reading : Reading) → HasNoCheck reading → found op modem reading ≡ None
  none_from (Ok (messages.Request request)) none = absurd none
  none_from (Ok (messages.Ack kind tid code)) none = refl
  none_from (Err faults.Empty) none = absurd none
  none_from (Err (faults.NotOurs mtype)) none = absurd none
  none_from (Err faults.Short) none = absurd none
  none_from (Err (faults.Tlv n k id fault)) none = absurd none
  none_from (Err (faults.LeftOut n k at)) none = absurd none
  none_from (Err faults.NoMemory) none = refl

  -- the check that is found decides what handling the message comes to
  pub message_decides : (sound : IsSound op) (reading : Reading) (o : Option MessageCheck) → o ≡ found op modem reading
      → IfSome o (λ check. (bytes : List ℕ) → AreBytes bytes → reading ≡ message_of bytes → IsHandledBy op modem reading check (handle op modem (heards.Message bytes)))
  message_decides sound reading None is = tt
  message_decides sound reading (Some check) is = λ bytes are read.
      let decided : (c : MessageCheck) × IsHandledBy op modem reading c (handle op modem (heards.Message bytes)) =
      subst (λ (r : Reading). (c : MessageCheck) × IsHandledBy op modem r c (handle op modem (heards.Message bytes))) (sym read)
      (bytes-handled op modem bytes sound are (subst IsNoAck read no_ack)) in
      let same : decided.0 ≡ check =
      first_one (λ (c : MessageCheck). HoldsOf c op modem reading) message_table decided.0 check decided.1.first (message_first op modem reading (Some check) is) in
      subst (λ (c : MessageCheck). IsHandledBy op modem reading c (handle op modem (heards.Message bytes))) same decided.1
    where
      no_ack : IsNoAck reading
      no_ack kind tid code same = let none = none_from reading (subst HasNoCheck (sym same) tt) in cc
