-- Whose step a step is, and what of a plant's outputs is an operator's (implementation-specific).
use Rattle.std.specs.Prelude.{◌==◌, ℕ, List, filter_map, map, count_by, Bool, false, Option, Some, None, slice_get, if◌then◌else◌}
use Rattle.slice_scheduler.specs.Minislots.{Minislots}
use Rattle.plant.specs.declared.operator_row.RowFields.{RowFields}
use Rattle.plant.specs.Row.{is_listed}
use Rattle.operator_model.specs.declared.action.SliceRow.{SliceRow}
use Rattle.operator_model.specs.declared.action.Action.{Action}
use Rattle.operator_model.specs.declared.action.Action.TheVariants as actions
use Rattle.operator_model.specs.declared.output.Output.{Output}
use Rattle.map_assembly.specs.declared.map_bytes.MapBytes.{MapBytes}
use Rattle.map_assembly.specs.declared.slicing.Reslicing.{Reslicing}
use Rattle.run_model.specs.declared.step.Step.{Step}
use Rattle.run_model.specs.declared.step.Step.TheVariants as steps
use Rattle.run_model.specs.declared.step.Out.{Out}
use Rattle.run_model.specs.declared.step.Out.TheVariants as outs

-- ---- own steps

-- an operator's own row of a slice change, as its action
abbrev pub resliced_by : ℕ → Option SliceRow → Option Action
resliced_by from None = None
resliced_by from (Some row) = Some (actions.Reslice from row)

-- a step as an action of the operator with this row at this place, where it is one: what is received of its modems, its work,
-- its ticks, and each slice change with its own row
abbrev pub action_of : RowFields → ℕ → Step → Option Action
action_of row i (steps.Arrive modem heard) = if is_listed modem row.modems then Some (actions.Arrive modem heard) else None
action_of row i (steps.Work op) = if op == i then Some actions.Work else None
action_of row i (steps.Tick op) = if op == i then Some actions.Tick else None
action_of row i (steps.Collect op) = None
action_of row i (steps.Reslice from rows) = resliced_by from (slice_get rows i)

-- the operator's own of these steps, as its actions, in order
abbrev pub own_steps : RowFields → ℕ → List Step → List Action
own_steps row i all = filter_map (action_of row i) all

-- ---- answers

-- the output, if it is under this operator
abbrev pub output_under : ℕ → Out → Option Output
output_under i (outs.Of op output) = if op == i then Some output else None
output_under i (outs.Map made) = None

-- the outputs under an operator: its modems' replies, drop reasons, and its frames
abbrev pub answers_of : ℕ → List Out → List Output
answers_of i all = filter_map (output_under i) all

-- outputs of an operator, under it
abbrev pub outputs_under : ℕ → List Output → List Out
outputs_under i outputs = map (λ output. outs.Of i output) outputs

-- ---- MAPs

-- the MAP, if the output is one
abbrev pub map_in : Out → Option MapBytes
map_in (outs.Of op output) = None
map_in (outs.Map made) = Some made

-- the MAPs of these outputs
abbrev pub maps_in : List Out → List MapBytes
maps_in all = filter_map map_in all

-- the step collects a frame of this operator
abbrev pub is_collect : ℕ → Step → Bool
is_collect i (steps.Arrive modem heard) = false
is_collect i (steps.Work op) = false
is_collect i (steps.Tick op) = false
is_collect i (steps.Collect op) = op == i
is_collect i (steps.Reslice from rows) = false

-- how often an operator's frames were collected
abbrev pub collects_of : ℕ → List Step → ℕ
collects_of i all = count_by (is_collect i) all

-- ---- slice changes

-- the slice of a row of a slice change
abbrev pub slice_of : SliceRow → Minislots
slice_of row = record { start = row.start; length = row.length }

-- the operators' slices, and the first frame that has them
abbrev pub reslicing_in : Step → Option Reslicing
reslicing_in (steps.Arrive modem heard) = None
reslicing_in (steps.Work op) = None
reslicing_in (steps.Tick op) = None
reslicing_in (steps.Collect op) = None
reslicing_in (steps.Reslice from rows) = Some (record { from = from; slicing = map slice_of rows })

-- the slice changes of these steps, in order
abbrev pub reslicings_of : List Step → List Reslicing
reslicings_of all = filter_map reslicing_in all
