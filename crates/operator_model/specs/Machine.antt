-- One operator's own machine: what each action makes of its state, what it outputs, and which actions are refused
-- (implementation-specific).
use Rattle.std.specs.Prelude.{◌≡◌, ◌==◌, ◌||◌, ◌+◌, ℕ, Bool, false, List, [], ◌∷◌, ◌++◌, length, nat_le, nat_lt, is_some, Option, Some, None, if◌then◌else◌}
use Rattle.dsx_messages.specs.declared.modem.Modem.{Modem}
use Rattle.plant.specs.declared.consts.ConstsFields.{ConstsFields}
use Rattle.plant.specs.declared.operator_row.RowFields.{RowFields}
use Rattle.plant.specs.Row.{is_listed}
use Rattle.flow_table.specs.Table.{committed_minislots}
use Rattle.operator_model.specs.declared.heard.Heard.{Heard}
use Rattle.operator_model.specs.declared.heard.Arrival.{Arrival}
use Rattle.operator_model.specs.declared.action.SliceRow.{SliceRow}
use Rattle.operator_model.specs.declared.action.Action.{Action}
use Rattle.operator_model.specs.declared.action.Action.TheVariants.{Arrive, Work, Tick, Reslice}
use Rattle.operator_model.specs.declared.action.Unfit.{Unfit}
use Rattle.operator_model.specs.declared.action.Unfit.TheVariants.{NotPast, Unfinished, OffFrame, BudgetOverSlice, OverBudget}
use Rattle.operator_model.specs.declared.output.Cause.TheVariants.{InboxFull, Idle}
use Rattle.operator_model.specs.declared.output.Output.TheVariants as outputs
use Rattle.operator_model.specs.State.{OperatorState, Operator}
use Rattle.operator_model.specs.Handle.{StepResult, silent, handle}
use Rattle.operator_model.specs.Frame.{tick_result}

-- ---- the actions

-- to the end of the inbox; a full inbox drops it
abbrev pub arrival_result : Operator → Modem → Heard → StepResult
arrival_result op modem heard =
    if nat_le op.row.inbox (length op.state.inbox) then silent op.state modem InboxFull
    else record { state = record op.state { inbox = op.state.inbox ++ record { modem = modem; heard = heard } ∷ [] }; outputs = [] }

-- what was handled is taken out of the inbox
abbrev pub taken_out : List Arrival → StepResult → StepResult
taken_out others ran = record { state = record ran.state { inbox = others }; outputs = ran.outputs }

-- the first of the inbox is handled and taken out; no handling looks at the inbox
abbrev pub work_result : Operator → List Arrival → StepResult
work_result op [] = record { state = op.state; outputs = outputs.Silent None Idle ∷ [] }
work_result op (first ∷ others) = taken_out others (handle op first.modem first.heard)

-- the share that waits for its frame
abbrev pub reslice_result : OperatorState → ℕ → SliceRow → StepResult
reslice_result state from row = record {
  state = record state {
    next = Some (record { from = from; share = record { slice = record { start = row.start; length = row.length }; budget = row.budget } });
  };
  outputs = [];
}

-- one action of an operator: the state after it and what it outputs
unfoldable pub own_step : Operator → Action → StepResult
own_step o (Arrive modem heard) = arrival_result o modem heard
own_step o Work = work_result o o.state.inbox
own_step o Tick = tick_result o
own_step o (Reslice from slice_row) = reslice_result o.state from slice_row

-- ---- what is refused

-- the modem of an Arrive that is not of this row
abbrev pub stranger_of : RowFields → Action → Option Modem
stranger_of row (Arrive modem heard) = if is_listed modem row.modems then None else Some modem
stranger_of row Work = None
stranger_of row Tick = None
stranger_of row (Reslice from slice_row) = None

-- the last frame number has no tick
abbrev pub is_spent : OperatorState → Action → Bool
is_spent state (Arrive modem heard) = false
is_spent state Work = false
is_spent state Tick = state.frame == 4294967295
is_spent state (Reslice from slice_row) = false

-- a slice has no minislot, begins within the head, or ends after the frame
abbrev pub is_off_frame : ConstsFields → SliceRow → Bool
is_off_frame consts row = (row.length == 0) || nat_lt row.start consts.channel.head || nat_lt consts.channel.frame_minislots (row.start + row.length)

-- why a slice cannot be taken from this frame on
abbrev pub unfit_from : Operator → ℕ → SliceRow → Option Unfit
unfit_from o from row =
    if nat_le from o.state.frame then Some NotPast else
    if is_some o.state.next then Some Unfinished else
    if is_off_frame o.consts row then Some OffFrame else
    if nat_lt row.length row.budget then Some BudgetOverSlice else
    if nat_lt row.budget (committed_minislots o.consts.units o.state.flows) then Some OverBudget else
    None

-- why a slice change is refused; no other action is unfit
abbrev pub unfit_of : Operator → Action → Option Unfit
unfit_of o (Arrive modem heard) = None
unfit_of o Work = None
unfit_of o Tick = None
unfit_of o (Reslice from row) = unfit_from o from row

-- the action is not refused: it is not of another operator's modem, not a tick past the last frame number, and not a slice change that does
-- not fit
pub record IsAllowed (o : Operator) (action : Action) : Type 0 where
  pub mine : stranger_of o.row action ≡ None
  pub not_spent : is_spent o.state action ≡ false
  pub fit : unfit_of o action ≡ None

-- ---- runs

-- the operator once the action is done
abbrev pub after_step : Operator → Action → Operator
after_step o action = record o { state = (own_step o action).state }

-- the actions one after the other: the state after them, and all their outputs in order
abbrev pub own_run : Operator → List Action → StepResult
own_run o [] = record { state = o.state; outputs = [] }
own_run o (action ∷ actions) = record {
  state = (own_run (after_step o action) actions).state;
  outputs = (own_step o action).outputs ++ (own_run (after_step o action) actions).outputs;
}
