-- No handling looks at the inbox or changes it.
use Rattle.std.proofs.Common.{◌≡◌, ℕ, Bool, true, false, List, [], ◌∷◌, Option, Some, None, Result, Ok, Err, refl, sym, ap, ◌∙◌}
use Rattle.operator_book.proofs.Common.{not, find, length, nat_le, slice_get, drop, if◌then◌else◌, option_map, flow_with, same_Some, none-some, Modem, Kind, Message, MessageFault, message_of, spell_reply, KeptEntry, same_kind, is_of, waits_for, same_modem, Flow, asks_for_grants, flow_after_request, with_flow, Arrival, Verdict, Refused, Heard, verdict, encoding_refusal, taken_out, work_result, Operator, refusal, reply_result, silent, carried_out, is_of_cmts, new_unless, transaction_result, acked_if, kind_of, tid_of, message_handled, asked_of_flow, handle}
use Rattle.dsx_messages.specs.declared.code.Code.TheVariants as codes
use Rattle.dsx_messages.specs.declared.message.Message.TheVariants as messages
use Rattle.dsx_messages.specs.declared.fault.MessageFault.TheVariants as faults
use Rattle.operator_model.specs.declared.output.Cause.TheVariants as causes
use Rattle.operator_model.specs.declared.heard.Heard.TheVariants as heards

module _ (op : Operator) (modem : Modem) where
  again : (kind : Kind) (entry : KeptEntry) (b : Bool) → (if b then reply_result op.state modem entry.reply else silent op.state modem causes.TidInUse).state.inbox ≡ op.state.inbox
  again kind entry true = refl
  again kind entry false = refl

  room : (kind : Kind) (tid : ℕ) (v : Verdict) (b : Bool)
      → (if b then reply_result op.state modem (spell_reply (refusal kind tid codes.RejectTemporary)) else carried_out op modem kind tid v).state.inbox ≡ op.state.inbox
  room kind tid v true = refl
  room kind tid v false = refl

  new : (kind : Kind) (tid : ℕ) (v : Verdict) (o : Option KeptEntry) → (new_unless op modem kind tid v o).state.inbox ≡ op.state.inbox
  new kind tid v (Some entry) = again kind entry (same_kind entry.kind kind)
  new kind tid v None = room kind tid v (nat_le op.row.transactions (length op.state.kept))

  first : (kind : Kind) (tid : ℕ) (v : Verdict) (b : Bool)
      → (if b then reply_result op.state modem (spell_reply (refusal kind tid codes.RejectUnknownTransaction)) else new_unless op modem kind tid v (find (is_of modem tid) op.state.kept)).state.inbox ≡ op.state.inbox
  first kind tid v true = refl
  first kind tid v false = new kind tid v (find (is_of modem tid) op.state.kept)

  transacted_keeps : (kind : Kind) (tid : ℕ) (v : Verdict) → (transaction_result op modem kind tid v).state.inbox ≡ op.state.inbox
  transacted_keeps kind tid v = first kind tid v (is_of_cmts tid)

  acked_keeps : (tid : ℕ) (kind : Kind) (code : ℕ) (o : Option ℕ) → (acked_if op modem tid kind code o).state.inbox ≡ op.state.inbox
  acked_keeps tid kind code None = refl
  acked_keeps tid kind code (Some sfid) = refl

  message_keeps : (read : Result Message MessageFault) → (message_handled op modem read).state.inbox ≡ op.state.inbox
  message_keeps (Err faults.Empty) = refl
  message_keeps (Err (faults.NotOurs mtype)) = refl
  message_keeps (Err faults.Short) = refl
  message_keeps (Err (faults.Tlv tid kind id fault)) = transacted_keeps kind tid (Refused (encoding_refusal kind tid id fault))
  message_keeps (Err (faults.LeftOut tid kind found)) = transacted_keeps kind tid (Refused (refusal kind tid codes.RejectUnrecognizedSetting))
  message_keeps (Err faults.NoMemory) = refl
  message_keeps (Ok (messages.Ack kind tid code)) = acked_keeps tid kind code (option_map (λ entry. entry.sfid) (find (waits_for modem tid kind) op.state.kept))
  message_keeps (Ok (messages.Request request)) = transacted_keeps (kind_of request) (tid_of request) (verdict op modem request)

  asking : (minislots : ℕ) (entry : ℕ × Flow) (mine asks : Bool)
      → (if not mine then silent op.state modem causes.NoSuchSid else if not asks then silent op.state modem causes.NotRequesting else
      record { state = record op.state { flows = with_flow entry.0 (flow_after_request minislots op.state.frame entry.1) op.state.flows }; outputs = [] }).state.inbox ≡ op.state.inbox
  asking minislots entry false asks = refl
  asking minislots entry true false = refl
  asking minislots entry true true = refl

  asked_keeps : (minislots : ℕ) (o : Option (ℕ × Flow)) → (asked_of_flow op.state modem minislots o).state.inbox ≡ op.state.inbox
  asked_keeps minislots None = refl
  asked_keeps minislots (Some entry) = asking minislots entry (same_modem entry.1.modem modem) (asks_for_grants entry.1.sets.active)

  handle_keeps : (from : Modem) (heard : Heard) → from ≡ modem → (handle op modem heard).state.inbox ≡ op.state.inbox
  handle_keeps from (heards.Message bytes) same = message_keeps (message_of bytes)
  handle_keeps from (heards.Request sid minislots) same = asked_keeps minislots (flow_with sid op.state.flows)

-- ---- what was handled first is taken out

of_first : (op : Operator) (first : Arrival) (inbox : List Arrival) → slice_get inbox 0 ≡ Some first
    → work_result op inbox ≡ taken_out (drop 1 inbox) (handle op first.modem first.heard)
of_first op first [] e = absurd (none-some first e)
of_first op first (x ∷ xs) e = ap (λ (f : Arrival). taken_out xs (handle op f.modem f.heard)) (same_Some x first e)

pub worked_is : (op : Operator) (first : Arrival) (heard : Heard) → slice_get op.state.inbox 0 ≡ Some first → first.heard ≡ heard
    → taken_out (drop 1 (handle op first.modem heard).state.inbox) (handle op first.modem heard) ≡ work_result op op.state.inbox
worked_is op first heard e is =
    ap (λ (xs : List Arrival). taken_out (drop 1 xs) (handle op first.modem heard)) (handle_keeps op first.modem first.modem heard refl)
    ∙ ap (λ (h : Heard). taken_out (drop 1 op.state.inbox) (handle op first.modem h)) (sym is)
    ∙ sym (of_first op first op.state.inbox e)
