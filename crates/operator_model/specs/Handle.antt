-- How what was received is handled (CM-SP-MULPIv3.1, 7.2 and 11.2; the cached responses are implementation-specific).
use Rattle.std.specs.Prelude.{◌≡◌, ◌==◌, ◌<◌, ℕ, Bool, true, false, not, List, [], ◌∷◌, ◌++◌, map, length, find, nat_le, Option, Some, None, IsNone, Result, Ok, Err, if◌then◌else◌}
use Rattle.std.specs.Option.{option_map}
use Rattle.std.specs.Ordering.{nat_cmp}
use Rattle.std.specs.Map.{remove_entry}
use Rattle.std.specs.BTreeMap.{is_at}
use Rattle.dsx_messages.specs.declared.modem.Modem.{Modem}
use Rattle.dsx_messages.specs.declared.kind.Kind.{Kind}
use Rattle.dsx_messages.specs.declared.kind.Kind.TheVariants.{Dsa, Dsc, Dsd}
use Rattle.dsx_messages.specs.declared.code.Code.TheVariants as codes
use Rattle.dsx_messages.specs.declared.reply.ReplyFields.{ReplyFields}
use Rattle.dsx_messages.specs.declared.message.Request.{Request}
use Rattle.dsx_messages.specs.declared.message.Request.TheVariants as requests
use Rattle.dsx_messages.specs.declared.message.Message.{Message}
use Rattle.dsx_messages.specs.declared.message.Message.TheVariants as messages
use Rattle.dsx_messages.specs.declared.fault.MessageFault.{MessageFault}
use Rattle.dsx_messages.specs.declared.fault.MessageFault.TheVariants as faults
use Rattle.dsx_messages.specs.Reading.{message_of}
use Rattle.dsx_messages.specs.Spelling.{spell_reply}
use Rattle.transactions.specs.declared.entry.KeptEntry.{KeptEntry}
use Rattle.transactions.specs.Entry.{same_kind, is_of, waits_for}
use Rattle.transactions.specs.Keeping.{begun_entry}
use Rattle.transactions.specs.Keeping as keeping
use Rattle.plant.specs.Row.{same_modem}
use Rattle.flow_table.specs.declared.flow.Flow.{Flow}
use Rattle.flow_table.specs.Flow.{asks_for_grants, flow_after_ack, taken_back, flow_after_request}
use Rattle.flow_table.specs.Table.{flow_with, with_flow}
use Rattle.flow_table.specs.Moved.{change_at}
use Rattle.operator_model.specs.declared.heard.Heard.{Heard}
use Rattle.operator_model.specs.declared.heard.Heard.TheVariants as heards
use Rattle.operator_model.specs.declared.output.Cause.{Cause}
use Rattle.operator_model.specs.declared.output.Cause.TheVariants as causes
use Rattle.operator_model.specs.declared.output.Output.{Output}
use Rattle.operator_model.specs.declared.output.Output.TheVariants as outputs
use Rattle.operator_model.specs.declared.verdict.Verdict.{Verdict}
use Rattle.operator_model.specs.declared.verdict.Verdict.TheVariants.{Refused, Put, Deleted}
use Rattle.operator_model.specs.State.{OperatorState, Operator}
use Rattle.operator_model.specs.Asked.{refusal}
use Rattle.operator_model.specs.Verdict.{verdict, encoding_refusal}

-- a state, and what was output on the way to it
pub record StepResult : Type 0 where
  pub state : OperatorState
  pub outputs : List Output

-- nothing changes, and nothing is answered
abbrev pub silent : OperatorState → Modem → Cause → StepResult
silent state modem cause = record { state = state; outputs = outputs.Silent (Some modem) cause ∷ [] }

-- this reply alone is output
abbrev pub reply_output : Modem → ReplyFields → List Output
reply_output modem reply = outputs.Reply modem (spell_reply reply) ∷ []

-- nothing changes, and these bytes are answered
abbrev pub reply_result : OperatorState → Modem → List ℕ → StepResult
reply_result state modem bytes = record { state = state; outputs = outputs.Reply modem bytes ∷ [] }

-- ---- flows that change

-- the flows without that of this SFID
abbrev pub without_flow : ℕ → List (ℕ × Flow) → List (ℕ × Flow)
without_flow sfid flows = remove_entry (is_at (nat_cmp sfid)) flows

-- what a transaction asked for is undone: an added flow goes, a change is taken back
abbrev pub undone : Kind → ℕ → List (ℕ × Flow) → List (ℕ × Flow)
undone Dsa sfid flows = without_flow sfid flows
undone Dsc sfid flows = change_at sfid taken_back flows
undone Dsd sfid flows = flows

-- ---- a transaction

-- what a verdict makes of the flows
abbrev pub flows_after : Verdict → List (ℕ × Flow) → List (ℕ × Flow)
flows_after (Refused reply) flows = flows
flows_after (Put sfid flow reply) flows = with_flow sfid flow flows
flows_after (Deleted sfid reply) flows = without_flow sfid flows

-- the reply of a verdict
abbrev pub reply_of : Verdict → ReplyFields
reply_of (Refused reply) = reply
reply_of (Put sfid flow reply) = reply
reply_of (Deleted sfid reply) = reply

-- the SFID that is kept with the reply: none with a refusal
abbrev pub sfid_of : Verdict → ℕ
sfid_of (Refused reply) = 0
sfid_of (Put sfid flow reply) = sfid
sfid_of (Deleted sfid reply) = sfid

-- only a flow that was added or changed waits for an acknowledgement
abbrev pub does_wait : Verdict → Bool
does_wait (Refused reply) = false
does_wait (Put sfid flow reply) = true
does_wait (Deleted sfid reply) = false

-- the verdict's effect on the flows and the cached responses, and its reply: the reply is returned and cached
abbrev pub carried_out : Operator → Modem → Kind → ℕ → Verdict → StepResult
carried_out op modem kind tid v = record {
  state = record op.state {
    flows = flows_after v op.state.flows;
    kept = op.state.kept ++ begun_entry op.consts.timers modem tid kind (spell_reply (reply_of v)) (sfid_of v) (does_wait v) ∷ [];
  };
  outputs = reply_output modem (reply_of v);
}

-- transaction IDs from 0x8000 on are the CMTS's
abbrev pub is_of_cmts : ℕ → Bool
is_of_cmts tid = nat_le 32768 tid

-- a request that is repeated gets the cached reply again; another kind under its transaction ID gets no answer
abbrev pub repeat_result : OperatorState → Modem → Kind → KeptEntry → StepResult
repeat_result state modem kind entry = if same_kind entry.kind kind then reply_result state modem entry.reply else silent state modem causes.TidInUse

-- checks 2 and 3: the transaction is kept already; as many are kept as the row allows
abbrev pub new_unless : Operator → Modem → Kind → ℕ → Verdict → Option KeptEntry → StepResult
new_unless op modem kind tid v (Some entry) = repeat_result op.state modem kind entry
new_unless op modem kind tid v None =
    if nat_le op.row.transactions (length op.state.kept) then reply_result op.state modem (spell_reply (refusal kind tid codes.RejectTemporary)) else
    carried_out op modem kind tid v

-- checks 1 to 3, which do not ask what the request says further; then the verdict
abbrev pub transaction_result : Operator → Modem → Kind → ℕ → Verdict → StepResult
transaction_result op modem kind tid v =
    if is_of_cmts tid then reply_result op.state modem (spell_reply (refusal kind tid codes.RejectUnknownTransaction)) else
    new_unless op modem kind tid v (find (is_of modem tid) op.state.kept)

-- what checks 1 to 3 leave of a verdict: it has no effect, and this is output
abbrev pub IsAnswered : Operator → Modem → Kind → ℕ → List Output → Type 0
IsAnswered op modem kind tid outputs =
    (v : Verdict) → transaction_result op modem kind tid v ≡ record { state = op.state; outputs = outputs }

-- what checks 1 to 3 leave of a verdict: it is carried out, and there is room to cache its reply
pub record IsCarriedOut (op : Operator) (modem : Modem) (kind : Kind) (tid : ℕ) : Type 0 where
  pub judged : (v : Verdict) → transaction_result op modem kind tid v ≡ carried_out op modem kind tid v
  pub free : IsNone (find (is_of modem tid) op.state.kept)
  pub room : length op.state.kept < op.row.transactions

-- ---- an acknowledgement

-- code 0 commits the pending sets, another code takes them back
abbrev pub flows_acked : Kind → ℕ → ℕ → ℕ → List (ℕ × Flow) → List (ℕ × Flow)
flows_acked kind code frame sfid flows = if code == 0 then change_at sfid (flow_after_ack frame) flows else undone kind sfid flows

-- nothing waits for it; else the entry that did is held from now on
abbrev pub acked_if : Operator → Modem → ℕ → Kind → ℕ → Option ℕ → StepResult
acked_if op modem tid kind code None = silent op.state modem causes.UnknownAck
acked_if op modem tid kind code (Some sfid) = record {
  state = record op.state {
    flows = flows_acked kind code op.state.frame sfid op.state.flows;
    kept = map (keeping.entry_after_ack op.consts.timers modem tid kind) op.state.kept;
  };
  outputs = [];
}

-- an acknowledgement: the modem's transaction that waits for one of this kind is committed or taken back; there is no reply (11.2)
abbrev pub ack_result : Operator → Modem → ℕ → Kind → ℕ → StepResult
ack_result op modem tid kind code =
    acked_if op modem tid kind code (option_map (λ entry. entry.sfid) (find (waits_for modem tid kind) op.state.kept))

-- ---- a message

-- the transaction ID of a request
abbrev pub tid_of : Request → ℕ
tid_of (requests.Dsa tid encodings) = tid
tid_of (requests.Dsc tid encodings) = tid
tid_of (requests.Dsd tid sfid) = tid

-- the kind of a request: DSA, DSC or DSD
abbrev pub kind_of : Request → Kind
kind_of (requests.Dsa tid encodings) = Dsa
kind_of (requests.Dsc tid encodings) = Dsc
kind_of (requests.Dsd tid sfid) = Dsd

-- a message is handled by what it says, or by its first fault: one that cannot be read has no reply (check 0), and a request with an
-- invalid rest is refused (check 4)
abbrev pub message_handled : Operator → Modem → Result Message MessageFault → StepResult
message_handled op modem (Err faults.Empty) = silent op.state modem causes.Empty
message_handled op modem (Err (faults.NotOurs mtype)) = silent op.state modem causes.NotOurs
message_handled op modem (Err faults.Short) = silent op.state modem causes.Short
message_handled op modem (Err (faults.Tlv tid kind id fault)) = transaction_result op modem kind tid (Refused (encoding_refusal kind tid id fault))
message_handled op modem (Err (faults.LeftOut tid kind found)) = transaction_result op modem kind tid (Refused (refusal kind tid codes.RejectUnrecognizedSetting))
message_handled op modem (Err faults.NoMemory) = silent op.state modem causes.NotOurs
message_handled op modem (Ok (messages.Ack kind tid code)) = ack_result op modem tid kind code
message_handled op modem (Ok (messages.Request request)) =
    transaction_result op modem (kind_of request) (tid_of request) (verdict op modem request)

-- ---- a request for minislots

-- no flow has the SID; it is another modem's; the flow may not ask; else its backlog is what is asked for
abbrev pub asked_of_flow : OperatorState → Modem → ℕ → Option (ℕ × Flow) → StepResult
asked_of_flow state modem minislots None = silent state modem causes.NoSuchSid
asked_of_flow state modem minislots (Some entry) =
    if not (same_modem entry.1.modem modem) then silent state modem causes.NoSuchSid else
    if not (asks_for_grants entry.1.sets.active) then silent state modem causes.NotRequesting else
    record { state = record state { flows = with_flow entry.0 (flow_after_request minislots state.frame entry.1) state.flows }; outputs = [] }

-- a bandwidth request: the backlog of the flow that has the SID is replaced, or nothing changes and there is a drop reason (7.2)
abbrev pub bandwidth_request_result : Operator → Modem → ℕ → ℕ → StepResult
bandwidth_request_result op modem sid minislots = asked_of_flow op.state modem minislots (flow_with sid op.state.flows)

-- ---- what was received

-- what a modem sent is handled: a message, or a bandwidth request
abbrev pub handle : Operator → Modem → Heard → StepResult
handle op modem (heards.Message bytes) = message_handled op modem (message_of bytes)
handle op modem (heards.Request sid minislots) = bandwidth_request_result op modem sid minislots
