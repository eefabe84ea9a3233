-- What handling a message comes to is one.
use Rattle.std.proofs.Common.{◌≡◌, ℕ, Ok, Err, sym, ap, ◌∙◌, subst, inl, inr}
use Rattle.trace_report.proofs.TableLemmas.Common.{Modem, Kind, Code, Detail, Request, MessageFault, KeptEntry, Operator, IsSound, StepResult, silent, said_by, IsDecidedBy, Reading, ReadsAsRequest, IsCachedEntry, IsUnread, IsRefusedFor, IsRepeatOf, HoldsOf, AnswersOf, message_table, IsHandledBy, MessageCheck, Unread, OfCmts, Repeated, KeptFull, Faulty, Judged}
use Rattle.dsx_messages.specs.declared.message.Message.TheVariants as messages
use Rattle.dsx_messages.specs.declared.fault.MessageFault.TheVariants as faults
use Rattle.tlv24.specs.declared.tlv.TlvFault.TheVariants as tlv_faults
use Rattle.operator_model.specs.declared.output.Cause.{Cause}
use Rattle.trace_report.proofs.TableLemmas.ListLemmas.{first_one}
use Rattle.trace_report.proofs.TableLemmas.OnceLemmas.{decided_once}

request_once : (reading : Reading) (k j : Kind) (m n : ℕ) → ReadsAsRequest reading k m → ReadsAsRequest reading j n → (k ≡ j) × (m ≡ n)
request_once (Ok (messages.Request request)) k j m n g h = (sym g.0 ∙ h.0, sym g.1 ∙ h.1)
request_once (Ok (messages.Ack kind tid code)) k j m n g h = absurd g
request_once (Err faults.Empty) k j m n g h = absurd g
request_once (Err (faults.NotOurs mtype)) k j m n g h = absurd g
request_once (Err faults.Short) k j m n g h = absurd g
request_once (Err (faults.Tlv tid kind id fault)) k j m n g h = (sym g.0 ∙ h.0, sym g.1 ∙ h.1)
request_once (Err (faults.LeftOut tid kind found)) k j m n g h = (sym g.0 ∙ h.0, sym g.1 ∙ h.1)
request_once (Err faults.NoMemory) k j m n g h = absurd g

unread_once : (reading : Reading) (c d : Cause) → IsUnread reading c → IsUnread reading d → c ≡ d
unread_once reading c d (inl g) (inl h) = g.1 ∙ sym h.1
unread_once reading c d (inr (inl g)) (inr (inl h)) = g.1 ∙ sym h.1
unread_once reading c d (inr (inr g)) (inr (inr h)) = g.2 ∙ sym h.2
unread_once reading c d (inl g) (inr (inl h)) = let a = g.0 in let b = h.0 in absurd cc
unread_once reading c d (inl g) (inr (inr h)) = let a = g.0 in let b = h.1 in absurd cc
unread_once reading c d (inr (inl g)) (inl h) = let a = g.0 in let b = h.0 in absurd cc
unread_once reading c d (inr (inl g)) (inr (inr h)) = let a = g.0 in let b = h.1 in absurd cc
unread_once reading c d (inr (inr g)) (inl h) = let a = g.1 in let b = h.0 in absurd cc
unread_once reading c d (inr (inr g)) (inr (inl h)) = let a = g.1 in let b = h.0 in absurd cc

refused_once : (fault : MessageFault) (a b : Code) (p q : Detail) → IsRefusedFor fault a p → IsRefusedFor fault b q → (a ≡ b) × (p ≡ q)
refused_once (faults.Tlv tid kind id (tlv_faults.Cut place)) a b p q g h = (g.0 ∙ sym h.0, g.1 ∙ sym h.1)
refused_once (faults.Tlv tid kind id (tlv_faults.WrongLength subtype)) a b p q g h = (g.0 ∙ sym h.0, g.1 ∙ sym h.1)
refused_once (faults.Tlv tid kind id (tlv_faults.Twice subtype)) a b p q g h = (g.0 ∙ sym h.0, g.1 ∙ sym h.1)
refused_once (faults.Tlv tid kind id (tlv_faults.Range subtype)) a b p q g h = (g.0 ∙ sym h.0, g.1 ∙ sym h.1)
refused_once (faults.Tlv tid kind id tlv_faults.NoMemory) a b p q g h = absurd g
refused_once (faults.LeftOut tid kind found) a b p q g h = (g.0 ∙ sym h.0, g.1 ∙ sym h.1)
refused_once faults.Empty a b p q g h = absurd g
refused_once (faults.NotOurs mtype) a b p q g h = absurd g
refused_once faults.Short a b p q g h = absurd g
refused_once faults.NoMemory a b p q g h = absurd g

module _ (op : Operator) (modem : Modem) where
  repeat_once : (kind : Kind) (entry : KeptEntry) (v w : StepResult) → IsRepeatOf op modem kind entry v → IsRepeatOf op modem kind entry w → v ≡ w
  repeat_once kind entry v w (inl g) (inl h) = g.1 ∙ sym h.1
  repeat_once kind entry v w (inr g) (inr h) = g.1 ∙ sym h.1
  repeat_once kind entry v w (inl g) (inr h) = absurd (h.0 g.0)
  repeat_once kind entry v w (inr g) (inl h) = absurd (g.0 h.0)

  module _ (sound : IsSound op) (reading : Reading) (v w : StepResult) where
    repeated_once : AnswersOf Repeated op modem reading v → AnswersOf Repeated op modem reading w → v ≡ w
    repeated_once g h =
        let one = request_once reading g.0 h.0 g.1 h.1 g.3 h.3 in
        let kept : IsCachedEntry op modem h.1 g.2 = subst (λ (n : ℕ). IsCachedEntry op modem n g.2) one.1 g.4 in
        let entry : g.2 ≡ h.2 = first_one (λ (e : KeptEntry). (e.modem ≡ modem) × (e.tid ≡ h.1)) op.state.kept g.2 h.2 kept h.4 in
        let answer : IsRepeatOf op modem h.0 h.2 v =
        subst (λ (e : KeptEntry). IsRepeatOf op modem h.0 e v) entry (subst (λ (k : Kind). IsRepeatOf op modem k g.2 v) one.0 g.5) in
        repeat_once h.0 h.2 v w answer h.5

    full_once : AnswersOf KeptFull op modem reading v → AnswersOf KeptFull op modem reading w → v ≡ w
    full_once g h =
        let one = request_once reading g.0 h.0 g.1 h.1 g.2 h.2 in
        let kind = one.0 in
        let tid = one.1 in
        let left = g.3 in
        let right = h.3 in
        cc

    faulty_once : AnswersOf Faulty op modem reading v → AnswersOf Faulty op modem reading w → v ≡ w
    faulty_once g h =
        let one = request_once reading g.0 h.0 g.1 h.1 g.5 h.5 in
        let kind = one.0 in
        let tid = one.1 in
        let here = g.6 in
        let there = h.6 in
        let fault : g.2 ≡ h.2 = cc in
        let both = refused_once h.2 g.3 h.3 g.4 h.4 (subst (λ (f : MessageFault). IsRefusedFor f g.3 g.4) fault g.7) h.7 in
        let code = both.0 in
        let detail = both.1 in
        let left = g.8 in
        let right = h.8 in
        cc

    judged_once : AnswersOf Judged op modem reading v → AnswersOf Judged op modem reading w → v ≡ w
    judged_once g h =
        let here = g.3 in
        let there = h.3 in
        let request : g.0 ≡ h.0 = cc in
        let decided : IsDecidedBy op modem (said_by h.0) g.1 g.2 = subst (λ (r : Request). IsDecidedBy op modem (said_by r) g.1 g.2) request g.4 in
        let verdict = (decided_once op sound.ascending modem (said_by h.0) g.1 h.1 g.2 h.2 decided h.4).1 in
        let left = g.5 in
        let right = h.5 in
        cc

    once : (check : MessageCheck) → AnswersOf check op modem reading v → AnswersOf check op modem reading w → v ≡ w
    once Unread g h = let cause = unread_once reading g.0 h.0 g.1 h.1 in g.2 ∙ (ap (λ (c : Cause). silent op.state modem c) cause ∙ sym h.2)
    once OfCmts g h =
        let one = request_once reading g.0 h.0 g.1 h.1 g.2 h.2 in
        let kind = one.0 in
        let tid = one.1 in
        let left = g.3 in
        let right = h.3 in
        cc
    once Repeated g h = repeated_once g h
    once KeptFull g h = full_once g h
    once Faulty g h = faulty_once g h
    once Judged g h = judged_once g h

-- two that decide are one, and come to the same
pub handled_once : (op : Operator) (modem : Modem) (reading : Reading) (a b : MessageCheck) (v w : StepResult) → IsSound op
    → IsHandledBy op modem reading a v → IsHandledBy op modem reading b w → (a ≡ b) × (v ≡ w)
handled_once op modem reading a b v w sound g h =
    let check : a ≡ b = first_one (λ (c : MessageCheck). HoldsOf c op modem reading) message_table a b g.first h.first in
    (check, once op modem sound reading v w b (subst (λ (c : MessageCheck). AnswersOf c op modem reading v) check g.answers) h.answers)
