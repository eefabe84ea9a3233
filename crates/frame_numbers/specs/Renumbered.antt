-- States that differ in how their frames are numbered alone, and what an operator notices of it: nothing (implementation-specific).
use Rattle.std.specs.Prelude.{◌≡◌, ℕ, ◌+◌, ◌-◌, ◌≤◌, List, map, count_by}
use Rattle.param_sets.specs.Units.{UnitSizes}
use Rattle.plant.specs.declared.consts.ConstsFields.{ConstsFields}
use Rattle.plant.specs.declared.operator_row.RowFields.{RowFields}
use Rattle.operator_model.specs.declared.action.Action.{Action}
use Rattle.operator_model.specs.declared.action.Action.TheVariants.{Arrive, Work, Tick, Reslice}
use Rattle.operator_model.specs.declared.output.Output.{Output}
use Rattle.operator_model.specs.declared.output.Output.TheVariants as outputs
use Rattle.operator_model.specs.State.{OperatorState, operator}
use Rattle.operator_model.specs.Handle.{StepResult}
use Rattle.operator_model.specs.Machine.{own_run, stranger_of, unfit_of}
use Rattle.operator_model.specs.Frames.{is_tick}
use Rattle.operator_model.specs.Slices.{MayRun}
use Rattle.operator_model.specs.Sound.{IsSound}
use Rattle.frame_numbers.specs.Seen.{state_as_seen}

-- two states that are seen as the same: they differ in how their frames are numbered alone
abbrev pub IsRenumbered : UnitSizes → OperatorState → OperatorState → Type 0
IsRenumbered units a b = state_as_seen units a ≡ state_as_seen units b

-- ---- numbers where the frame `from` is called `to`

-- the number of a frame, as many frames after `to` as it was after `from`
abbrev pub number_moved : ℕ → ℕ → ℕ → ℕ
number_moved from to number = number + to - from

-- an action whose slice change is from a frame of the other numbers on; any other action is the same
abbrev pub action_moved : ℕ → ℕ → Action → Action
action_moved from to (Arrive modem heard) = Arrive modem heard
action_moved from to Work = Work
action_moved from to Tick = Tick
action_moved from to (Reslice first row) = Reslice (number_moved from to first) row

-- an output whose frame has its number of the other numbers; any other output is the same
abbrev pub output_moved : ℕ → ℕ → Output → Output
output_moved from to (outputs.Reply modem bytes) = outputs.Reply modem bytes
output_moved from to (outputs.Silent modem cause) = outputs.Silent modem cause
output_moved from to (outputs.Frame number elements) = outputs.Frame (number_moved from to number) elements

-- ---- what is the same

-- the outputs differ in the numbers of the frames alone, and the states in how frames are numbered
pub record IsSameRun (units : UnitSizes) (from to : ℕ) (a b : StepResult) : Type 0 where
  pub outputs : b.outputs ≡ map (output_moved from to) a.outputs
  pub states : IsRenumbered units a.state b.state

-- Two sound states, one of them renumbered: what may be done in the one may be done in the other, as long as there are numbers for
-- its frames, and it is the same.
abbrev pub RenumberingIsNotNoticed : Type 0
RenumberingIsNotNoticed = (consts : ConstsFields) (row : RowFields) (a b : OperatorState) (actions : List Action)
    → IsSound (operator consts row a) → IsSound (operator consts row b) → IsRenumbered consts.units a b
    → MayRun (operator consts row a) actions → b.frame + count_by is_tick actions ≤ 4294967295
    → MayRun (operator consts row b) (map (action_moved a.frame b.frame) actions)
    × IsSameRun consts.units a.frame b.frame (own_run (operator consts row a) actions) (own_run (operator consts row b) (map (action_moved a.frame b.frame) actions))

-- What is refused in the one is refused in the other, for the same cause. Only a tick after the last frame number is not compared.
abbrev pub RefusalsAreTheSame : Type 0
RefusalsAreTheSame = (consts : ConstsFields) (row : RowFields) (a b : OperatorState) (action : Action)
    → IsRenumbered consts.units a b
    → (stranger_of row (action_moved a.frame b.frame action) ≡ stranger_of row action)
    × (unfit_of (operator consts row b) (action_moved a.frame b.frame action) ≡ unfit_of (operator consts row a) action)
