-- What is handled does not ask how frames are numbered.
use Rattle.std.proofs.Common.{◌≡◌, ℕ, Bool, true, false, cond, not, List, [], ◌∷◌, ◌++◌, length, map, option_map, find, Option, Some, None, Result, Ok, Err, refl, ap, ◌∙◌, nat_le}
use Rattle.frame_numbers.proofs.Common.{Modem, Kind, KeptEntry, same_modem, UnitSizes, Flow, asks_for_grants, flow_after_request, flow_with, with_flow, Heard, Verdict, Refused, Put, Deleted, OperatorState, Operator, verdict, encoding_refusal, StepResult, silent, reply_output, reply_result, carried_out, is_of_cmts, new_unless, transaction_result, acked_if, tid_of, kind_of, message_handled, asked_of_flow, bandwidth_request_result, handle, entry_seen, state_as_seen}
use Rattle.dsx_messages.specs.declared.code.Code.TheVariants as codes
use Rattle.dsx_messages.specs.declared.message.Message.{Message}
use Rattle.dsx_messages.specs.declared.message.Message.TheVariants as messages
use Rattle.dsx_messages.specs.declared.fault.MessageFault.{MessageFault}
use Rattle.dsx_messages.specs.declared.fault.MessageFault.TheVariants as faults
use Rattle.dsx_messages.specs.Reading.{message_of}
use Rattle.dsx_messages.specs.Spelling.{spell_reply}
use Rattle.transactions.specs.Entry.{same_kind, is_of, waits_for}
use Rattle.transactions.specs.Keeping.{begun_entry}
use Rattle.transactions.specs.Keeping as keeping
use Rattle.operator_model.specs.declared.heard.Heard.TheVariants as heards
use Rattle.operator_model.specs.declared.heard.Arrival.{Arrival}
use Rattle.operator_model.specs.declared.output.Cause.TheVariants as causes
use Rattle.operator_model.specs.Asked.{refusal}
use Rattle.operator_model.specs.Machine.{arrival_result, taken_out, work_result}
use Rattle.frame_numbers.proofs.FlowLemmas.{requested-seen}
use Rattle.frame_numbers.proofs.TableLemmas.{flows_seen, found-seen, with-seen, without-seen, acked_flows-seen}
use Rattle.frame_numbers.proofs.VerdictLemmas.{operator_seen, verdict_seen, verdict-seen}

-- a result whose state is as it is seen
abbrev pub result_seen : UnitSizes → StepResult → StepResult
result_seen units ran = record { state = state_as_seen units ran.state; outputs = ran.outputs }

module _ (op : Operator) where
  abbrev units : UnitSizes
  units = op.consts.units

  abbrev frame : ℕ
  frame = op.state.frame

  abbrev seen : StepResult → StepResult
  seen ran = result_seen units ran

  -- ---- a transaction

  carried-seen : (modem : Modem) (kind : Kind) (tid : ℕ) (v : Verdict) → carried_out (operator_seen op) modem kind tid (verdict_seen units frame v) ≡ seen (carried_out op modem kind tid v)
  carried-seen modem kind tid (Refused reply) = refl
  carried-seen modem kind tid (Put sfid flow reply) =
      ap (λ (flows : List (ℕ × Flow)). record {
        state = record (state_as_seen units op.state) {
          flows = flows;
          kept = op.state.kept ++ begun_entry op.consts.timers modem tid kind (spell_reply reply) sfid true ∷ [];
        };
        outputs = reply_output modem reply;
      }) (with-seen units frame sfid flow op.state.flows)
  carried-seen modem kind tid (Deleted sfid reply) =
      ap (λ (flows : List (ℕ × Flow)). record {
        state = record (state_as_seen units op.state) {
          flows = flows;
          kept = op.state.kept ++ begun_entry op.consts.timers modem tid kind (spell_reply reply) sfid false ∷ [];
        };
        outputs = reply_output modem reply;
      }) (without-seen units frame sfid op.state.flows)

  new_unless-seen : (modem : Modem) (kind : Kind) (tid : ℕ) (v : Verdict) (o : Option KeptEntry) → new_unless (operator_seen op) modem kind tid (verdict_seen units frame v) o ≡ seen (new_unless op modem kind tid v o)
  new_unless-seen modem kind tid v (Some entry) = by (same_kind entry.kind kind)
    where
      by : (b : Bool) → cond b (reply_result (state_as_seen units op.state) modem entry.reply) (silent (state_as_seen units op.state) modem causes.TidInUse) ≡ seen (cond b (reply_result op.state modem entry.reply) (silent op.state modem causes.TidInUse))
      by true = refl
      by false = refl
  new_unless-seen modem kind tid v None = by (nat_le op.row.transactions (length op.state.kept))
    where
      by : (b : Bool) →
          cond b (reply_result (state_as_seen units op.state) modem (spell_reply (refusal kind tid codes.RejectTemporary))) (carried_out (operator_seen op) modem kind tid (verdict_seen units frame v))
          ≡ seen (cond b (reply_result op.state modem (spell_reply (refusal kind tid codes.RejectTemporary))) (carried_out op modem kind tid v))
      by true = refl
      by false = carried-seen modem kind tid v

  transaction-seen : (modem : Modem) (kind : Kind) (tid : ℕ) (v : Verdict) → transaction_result (operator_seen op) modem kind tid (verdict_seen units frame v) ≡ seen (transaction_result op modem kind tid v)
  transaction-seen modem kind tid v = by (is_of_cmts tid)
    where
      by : (b : Bool) →
          cond b (reply_result (state_as_seen units op.state) modem (spell_reply (refusal kind tid codes.RejectUnknownTransaction))) (new_unless (operator_seen op) modem kind tid (verdict_seen units frame v) (find (is_of modem tid) op.state.kept))
          ≡ seen (cond b (reply_result op.state modem (spell_reply (refusal kind tid codes.RejectUnknownTransaction))) (new_unless op modem kind tid v (find (is_of modem tid) op.state.kept)))
      by true = refl
      by false = new_unless-seen modem kind tid v (find (is_of modem tid) op.state.kept)

  -- ---- an acknowledgement

  acked-seen : (modem : Modem) (tid : ℕ) (kind : Kind) (code : ℕ) (o : Option ℕ) → acked_if (operator_seen op) modem tid kind code o ≡ seen (acked_if op modem tid kind code o)
  acked-seen modem tid kind code None = refl
  acked-seen modem tid kind code (Some sfid) =
      ap (λ (flows : List (ℕ × Flow)). record {
        state = record (state_as_seen units op.state) { flows = flows; kept = map (keeping.entry_after_ack op.consts.timers modem tid kind) op.state.kept };
        outputs = [];
      }) (acked_flows-seen units frame kind code sfid op.state.flows)

  -- ---- a message

  message-seen : (modem : Modem) (m : Result Message MessageFault) → message_handled (operator_seen op) modem m ≡ seen (message_handled op modem m)
  message-seen modem (Err faults.Empty) = refl
  message-seen modem (Err (faults.NotOurs mtype)) = refl
  message-seen modem (Err faults.Short) = refl
  message-seen modem (Err (faults.Tlv tid kind id fault)) = transaction-seen modem kind tid (Refused (encoding_refusal kind tid id fault))
  message-seen modem (Err (faults.LeftOut tid kind found)) = transaction-seen modem kind tid (Refused (refusal kind tid codes.RejectUnrecognizedSetting))
  message-seen modem (Err faults.NoMemory) = refl
  message-seen modem (Ok (messages.Ack kind tid code)) = acked-seen modem tid kind code (option_map (λ entry. entry.sfid) (find (waits_for modem tid kind) op.state.kept))
  message-seen modem (Ok (messages.Request request)) =
      ap (transaction_result (operator_seen op) modem (kind_of request) (tid_of request)) (verdict-seen op modem request)
      ∙ transaction-seen modem (kind_of request) (tid_of request) (verdict op modem request)

  -- ---- a request for minislots

  abbrev unless_refused : OperatorState → Modem → Bool → Bool → List (ℕ × Flow) → StepResult
  unless_refused state modem other may_not flows = cond other (silent state modem causes.NoSuchSid) (cond may_not (silent state modem causes.NotRequesting) (record { state = record state { flows = flows }; outputs = [] }))

  unless_refused-seen : (modem : Modem) (other may_not : Bool) (flows : List (ℕ × Flow)) → unless_refused (state_as_seen units op.state) modem other may_not (flows_seen units frame flows) ≡ seen (unless_refused op.state modem other may_not flows)
  unless_refused-seen modem true may_not flows = refl
  unless_refused-seen modem false true flows = refl
  unless_refused-seen modem false false flows = refl

  asked-seen : (modem : Modem) (minislots : ℕ) (o : Option (ℕ × Flow)) → asked_of_flow (state_as_seen units op.state) modem minislots (option_map (entry_seen units frame) o) ≡ seen (asked_of_flow op.state modem minislots o)
  asked-seen modem minislots None = refl
  asked-seen modem minislots (Some entry) =
      let other = not (same_modem entry.1.modem modem) in
      let may_not = not (asks_for_grants entry.1.sets.active) in
      ap (unless_refused (state_as_seen units op.state) modem other may_not)
      (ap (λ (flow : Flow). with_flow entry.0 flow (flows_seen units frame op.state.flows)) (requested-seen units frame minislots entry.1) ∙ with-seen units frame entry.0 (flow_after_request minislots frame entry.1) op.state.flows)
      ∙ unless_refused-seen modem other may_not (with_flow entry.0 (flow_after_request minislots frame entry.1) op.state.flows)

  bandwidth-seen : (modem : Modem) (sid minislots : ℕ) → bandwidth_request_result (operator_seen op) modem sid minislots ≡ seen (bandwidth_request_result op modem sid minislots)
  bandwidth-seen modem sid minislots =
      ap (asked_of_flow (state_as_seen units op.state) modem minislots) (found-seen units frame sid op.state.flows)
      ∙ asked-seen modem minislots (flow_with sid op.state.flows)

  -- ---- what was received

  handled-seen : (modem : Modem) (heard : Heard) → handle (operator_seen op) modem heard ≡ seen (handle op modem heard)
  handled-seen modem (heards.Message bytes) = message-seen modem (message_of bytes)
  handled-seen modem (heards.Request sid minislots) = bandwidth-seen modem sid minislots

  pub worked-seen : (inbox : List Arrival) → work_result (operator_seen op) inbox ≡ seen (work_result op inbox)
  worked-seen [] = refl
  worked-seen (first ∷ others) = ap (taken_out others) (handled-seen first.modem first.heard)

  abbrev longer : OperatorState → Modem → Heard → StepResult
  longer state modem heard = record { state = record state { inbox = op.state.inbox ++ record { modem = modem; heard = heard } ∷ [] }; outputs = [] }

  pub arrived-seen : (modem : Modem) (heard : Heard) → arrival_result (operator_seen op) modem heard ≡ seen (arrival_result op modem heard)
  arrived-seen modem heard = by (nat_le op.row.inbox (length op.state.inbox))
    where
      by : (b : Bool) → cond b (silent (state_as_seen units op.state) modem causes.InboxFull) (longer (state_as_seen units op.state) modem heard) ≡ seen (cond b (silent op.state modem causes.InboxFull) (longer op.state modem heard))
      by true = refl
      by false = refl
