-- What is planned of an action, and what becomes of the state when the plan is committed (implementation-specific).
use Rattle.std.specs.Prelude.{◌≡◌, ◌<◌, ◌+◌, ℕ, List, [], ◌∷◌, ◌++◌, drop, length, find, position, slice_get, Some, None, Result, Ok, Err, IsNone}
use Rattle.dsx_messages.specs.declared.kind.Kind.{Kind}
use Rattle.dsx_messages.specs.declared.modem.Modem.{Modem}
use Rattle.transactions.specs.Entry.{is_of, waits_for}
use Rattle.transactions.specs.Keeping.{begun_entry}
use Rattle.transactions.specs.Timers.{kept_after, given_up_in}
use Rattle.flow_table.specs.Flow.{flow_after_request}
use Rattle.operator_model.specs.declared.action.Action.{Action}
use Rattle.operator_model.specs.declared.heard.Arrival.{Arrival}
use Rattle.operator_model.specs.declared.heard.Heard.TheVariants as heards
use Rattle.operator_model.specs.declared.verdict.Verdict.{Verdict}
use Rattle.operator_model.specs.State.{OperatorState, Operator}
use Rattle.operator_model.specs.Changed.{with_change, with_inbox}
use Rattle.operator_model.specs.declared.output.Cause.{Cause}
use Rattle.operator_model.specs.Handle.{StepResult, silent, flows_after, sfid_of, does_wait, ack_result}
use Rattle.operator_model.specs.Frame.{all_granted, flows_left, share_at, next_at}
use Rattle.operator_model.specs.Machine.{unfit_from, reslice_result, own_step}
use Rattle.operator_model.specs.Sound.{IsSound}
use Rattle.operator_book.specs.Held.{flow_table_of, verdict_of, MayPut}
use Rattle.operator_book.specs.declared.plan.HandledEffect.{HandledEffect}
use Rattle.operator_book.specs.declared.plan.HandledEffect.TheVariants as handled
use Rattle.operator_book.specs.declared.plan.Effect.{Effect}
use Rattle.operator_book.specs.declared.plan.Effect.TheVariants as effects
use Rattle.operator_book.specs.declared.plan.Plan.{Plan}
use Rattle.operator_book.specs.declared.handling.FirstRequest.{FirstRequest}

-- ---- the state after a plan is committed

-- what was received first is taken out of the inbox
abbrev pub without_first : OperatorState → OperatorState
without_first state = record state { inbox = drop 1 state.inbox }

-- the verdict's change is made to the flows, and its reply is cached
abbrev pub state_after_response : Operator → Modem → ℕ → Kind → List ℕ → Verdict → OperatorState
state_after_response op modem tid kind reply v = record op.state {
  flows = flows_after v op.state.flows;
  kept = op.state.kept ++ begun_entry op.consts.timers modem tid kind reply (sfid_of v) (does_wait v) ∷ [];
}

-- the backlog of the flow is what its modem requests
abbrev pub state_after_request : Operator → ℕ → ℕ → OperatorState
state_after_request op sfid minislots = (with_change op sfid (flow_after_request minislots op.state.frame)).state

-- what a bandwidth request leads to: the flow of this SFID has another backlog, or there is no reply, for this cause
abbrev pub requested : Operator → Modem → ℕ → Result ℕ Cause → StepResult
requested op modem minislots (Ok sfid) = record { state = state_after_request op sfid minislots; outputs = [] }
requested op modem minislots (Err cause) = silent op.state modem cause

-- the operator's state once what was handled has its effect: nothing, a verdict with its reply, an acknowledgement, or a bandwidth request
abbrev pub state_after_handling : HandledEffect → Operator → OperatorState
state_after_handling handled.Nothing op = op.state
state_after_handling (handled.Response modem tid kind reply verdict) op = state_after_response op modem tid kind reply (verdict_of verdict)
state_after_handling (handled.Acknowledged place modem tid kind code) op = (ack_result op modem tid kind code).state
state_after_handling (handled.Requested sfid minislots) op = state_after_request op sfid minislots

-- the timers have counted a tick, these grants are taken off the backlogs, and the next frame follows
abbrev pub state_after_tick : Operator → List (ℕ × ℕ) → OperatorState
state_after_tick op granted = record {
  flows = all_granted op.state.frame granted (flows_left op.state);
  kept = kept_after op.consts.timers op.state.kept;
  inbox = op.state.inbox;
  frame = op.state.frame + 1;
  share = share_at (op.state.frame + 1) op.state.share op.state.next;
  next = next_at (op.state.frame + 1) op.state.next;
}

-- the operator's state once a plan is committed, by its kind: nothing, an arrival, the first of the inbox, a tick or a slice change
abbrev pub state_after : Effect → Operator → OperatorState
state_after effects.Nothing op = op.state
state_after (effects.Received arrival) op = (with_inbox op (op.state.inbox ++ arrival ∷ [])).state
state_after (effects.Handled effect) op = without_first (state_after_handling effect op)
state_after (effects.Ticked granted given_up) op = state_after_tick op granted
state_after (effects.Resliced from row) op = (reslice_result op.state from row).state

-- the operator once a plan is committed
abbrev pub after_effect : Operator → Effect → Operator
after_effect op effect = record op { state = state_after effect op }

-- what was received first is this bandwidth request
abbrev pub IsFirstRequest : List Arrival → FirstRequest → Type 0
IsFirstRequest inbox first = slice_get inbox 0 ≡ Some (record { modem = first.modem; heard = heards.Request first.sid first.minislots })

-- ---- when a plan may be committed

-- the flow may be put, and there is room for the response of a transaction that is not kept
pub record MayRespond (op : Operator) (modem : Modem) (tid : ℕ) (verdict : Verdict) : Type 0 where
  pub puts : MayPut (flow_table_of op) verdict
  pub free : IsNone (find (is_of modem tid) op.state.kept)
  pub room : length op.state.kept < op.row.transactions

-- the effect of what was handled may be committed: the flow of a verdict may be put, and an acknowledgement is of the cached response that
-- waits for it
abbrev pub MayHandle : Operator → HandledEffect → Type 0
MayHandle op handled.Nothing = Unit {0}
MayHandle op (handled.Response modem tid kind reply verdict) = MayRespond op modem tid (verdict_of verdict)
MayHandle op (handled.Acknowledged place modem tid kind code) = position (waits_for modem tid kind) op.state.kept ≡ Some place
MayHandle op (handled.Requested sfid minislots) = Unit {0}

-- a plan may be committed, by its kind: a tick has a frame number left and abandons what the timers abandon, and a slice change is not
-- refused
abbrev pub MayCommit : Operator → Effect → Type 0
MayCommit op effects.Nothing = Unit {0}
MayCommit op (effects.Received arrival) = Unit {0}
MayCommit op (effects.Handled effect) = MayHandle op effect
MayCommit op (effects.Ticked granted given_up) = (op.state.frame < 4294967295) × (given_up ≡ given_up_in op.state.kept)
MayCommit op (effects.Resliced from row) = unfit_from op from row ≡ None

-- the plan may be committed to a machine whose state stays sound
pub record IsCommittable (op : Operator) (plan : Plan) : Type 0 where
  pub may : MayCommit op plan.effect
  pub sound : IsSound (after_effect op plan.effect)

-- ---- whose plan it is

-- the plan has these outputs and leads to this state, and may be committed
pub record IsPlanFor (op : Operator) (ran : StepResult) (plan : Plan) : Type 0 where
  pub outputs : plan.outputs.items ≡ ran.outputs
  pub state : state_after plan.effect op ≡ ran.state
  pub may : MayCommit op plan.effect

-- the plan is one of this action
abbrev pub IsPlanOf : Operator → Action → Plan → Type 0
IsPlanOf op action plan = IsPlanFor op (own_step op action) plan

-- the plan is one of what was received first: it is handled so, and taken out of the inbox
abbrev pub IsPlanOfFirst : Operator → StepResult → Plan → Type 0
IsPlanOfFirst op ran plan = IsPlanFor op (record { state = without_first ran.state; outputs = ran.outputs }) plan
