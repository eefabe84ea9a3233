-- How many outputs an action has.
use Rattle.std.proofs.Common.{ℕ, ◌≤◌, Bool, true, false, List, [], ◌∷◌, ◌++◌, length, Option, Some, None, Result, Ok, Err, length-append, arith}
use Rattle.operator_book.proofs.Common.{length-map, not, find, nat_le, if◌then◌else◌, option_map, Modem, Kind, Message, MessageFault, message_of, spell_reply, KeptEntry, same_kind, is_of, waits_for, same_modem, Flow, asks_for_grants, flow_after_request, flow_with, with_flow, Action, Heard, Arrival, Verdict, Refused, verdict, encoding_refusal, Operator, refusal, StepResult, reply_result, silent, carried_out, is_of_cmts, new_unless, transaction_result, acked_if, kind_of, tid_of, message_handled, asked_of_flow, handle}
use Rattle.dsx_messages.specs.declared.code.Code.TheVariants as codes
use Rattle.dsx_messages.specs.declared.message.Message.TheVariants as messages
use Rattle.dsx_messages.specs.declared.fault.MessageFault.TheVariants as faults
use Rattle.operator_model.specs.declared.action.Action.TheVariants as actions
use Rattle.operator_model.specs.declared.heard.Heard.TheVariants as heards
use Rattle.operator_model.specs.declared.output.Output.TheVariants as outputs
use Rattle.operator_model.specs.declared.output.Cause.TheVariants as causes
use Rattle.operator_model.specs.Machine.{arrival_result, work_result, own_step}
use Rattle.operator_book.specs.MostOutputs.{most_outputs_of}

one : 1 ≤ 1
one = omega arith

none : 0 ≤ 1
none = omega arith

module _ (op : Operator) (modem : Modem) where
  again : (kind : Kind) (entry : KeptEntry) (b : Bool) → length (if b then reply_result op.state modem entry.reply else silent op.state modem causes.TidInUse).outputs ≤ 1
  again kind entry true = one
  again kind entry false = one

  room : (kind : Kind) (tid : ℕ) (v : Verdict) (b : Bool)
      → length (if b then reply_result op.state modem (spell_reply (refusal kind tid codes.RejectTemporary)) else carried_out op modem kind tid v).outputs ≤ 1
  room kind tid v true = one
  room kind tid v false = one

  new : (kind : Kind) (tid : ℕ) (v : Verdict) (o : Option KeptEntry) → length (new_unless op modem kind tid v o).outputs ≤ 1
  new kind tid v (Some entry) = again kind entry (same_kind entry.kind kind)
  new kind tid v None = room kind tid v (nat_le op.row.transactions (length op.state.kept))

  first : (kind : Kind) (tid : ℕ) (v : Verdict) (b : Bool)
      → length (if b then reply_result op.state modem (spell_reply (refusal kind tid codes.RejectUnknownTransaction)) else new_unless op modem kind tid v (find (is_of modem tid) op.state.kept)).outputs ≤ 1
  first kind tid v true = one
  first kind tid v false = new kind tid v (find (is_of modem tid) op.state.kept)

  few_transacted : (kind : Kind) (tid : ℕ) (v : Verdict) → length (transaction_result op modem kind tid v).outputs ≤ 1
  few_transacted kind tid v = first kind tid v (is_of_cmts tid)

  few_acked : (tid : ℕ) (kind : Kind) (code : ℕ) (o : Option ℕ) → length (acked_if op modem tid kind code o).outputs ≤ 1
  few_acked tid kind code None = one
  few_acked tid kind code (Some sfid) = none

  few_message : (read : Result Message MessageFault) → length (message_handled op modem read).outputs ≤ 1
  few_message (Err faults.Empty) = one
  few_message (Err (faults.NotOurs mtype)) = one
  few_message (Err faults.Short) = one
  few_message (Err (faults.Tlv tid kind id fault)) = few_transacted kind tid (Refused (encoding_refusal kind tid id fault))
  few_message (Err (faults.LeftOut tid kind found)) = few_transacted kind tid (Refused (refusal kind tid codes.RejectUnrecognizedSetting))
  few_message (Err faults.NoMemory) = one
  few_message (Ok (messages.Ack kind tid code)) = few_acked tid kind code (option_map (λ entry. entry.sfid) (find (waits_for modem tid kind) op.state.kept))
  few_message (Ok (messages.Request request)) = few_transacted (kind_of request) (tid_of request) (verdict op modem request)

  asking : (minislots : ℕ) (entry : ℕ × Flow) (mine asks : Bool)
      → length (if not mine then silent op.state modem causes.NoSuchSid else if not asks then silent op.state modem causes.NotRequesting else
      record { state = record op.state { flows = with_flow entry.0 (flow_after_request minislots op.state.frame entry.1) op.state.flows }; outputs = [] }).outputs ≤ 1
  asking minislots entry false asks = one
  asking minislots entry true false = one
  asking minislots entry true true = none

  few_asked : (minislots : ℕ) (o : Option (ℕ × Flow)) → length (asked_of_flow op.state modem minislots o).outputs ≤ 1
  few_asked minislots None = one
  few_asked minislots (Some entry) = asking minislots entry (same_modem entry.1.modem modem) (asks_for_grants entry.1.sets.active)

  few_handled : (heard : Heard) → length (handle op modem heard).outputs ≤ 1
  few_handled (heards.Message bytes) = few_message (message_of bytes)
  few_handled (heards.Request sid minislots) = few_asked minislots (flow_with sid op.state.flows)

  abbrev dropped : StepResult
  dropped = record { state = op.state; outputs = outputs.Silent (Some modem) causes.InboxFull ∷ [] }

  abbrev let_in : Heard → StepResult
  let_in heard = record { state = record op.state { inbox = op.state.inbox ++ record { modem = modem; heard = heard } ∷ [] }; outputs = [] }

  arriving : (heard : Heard) (b : Bool) → length (if b then dropped else let_in heard).outputs ≤ 1
  arriving heard true = one
  arriving heard false = none

  few_arrived : (heard : Heard) → length (arrival_result op modem heard).outputs ≤ 1
  few_arrived heard = arriving heard (nat_le op.row.inbox (length op.state.inbox))

few_worked : (op : Operator) (inbox : List Arrival) → length (work_result op inbox).outputs ≤ 1
few_worked op [] = one
few_worked op (first ∷ others) = few_handled op first.modem first.heard

-- an action has one output at most, and a tick what it sends again and its frame
pub few_outputs : (op : Operator) (action : Action)
    → length (own_step op action).outputs ≤ most_outputs_of op.state action
unfolding own_step
few_outputs op (actions.Arrive modem heard) = few_arrived op modem heard
few_outputs op actions.Work = few_worked op op.state.inbox
few_outputs op actions.Tick =
    rw (length-append, length-map) (omega arith)
few_outputs op (actions.Reslice from slice_row) = omega arith
