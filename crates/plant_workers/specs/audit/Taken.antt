-- A step, taken as an operator's own, and the operator in whose history it waits (implementation-specific).
use Rattle.std.specs.Prelude.{ℕ, Option, Some, None, slice_get}
use Rattle.plant.specs.declared.plant.PlantFields.{PlantFields}
use Rattle.plant.specs.Roster.{holder}
use Rattle.operator_model.specs.declared.action.Action.{Action}
use Rattle.operator_model.specs.declared.action.Action.TheVariants as actions
use Rattle.run_model.specs.declared.step.Step.{Step}
use Rattle.run_model.specs.declared.step.Step.TheVariants as steps
use Rattle.run_model.specs.OwnSteps.{resliced_by}

-- the action that a step is of the operator at place i, if the step is that operator's own
abbrev pub taken_by : ℕ → Step → Option Action
taken_by i (steps.Arrive modem heard) = Some (actions.Arrive modem heard)
taken_by i (steps.Work op) = Some actions.Work
taken_by i (steps.Tick op) = Some actions.Tick
taken_by i (steps.Collect op) = None
taken_by i (steps.Reslice from rows) = resliced_by from (slice_get rows i)

-- the operator in whose history a step waits for a place. A `Reslice` is of all operators and waits for none
abbrev pub waiting_operator : PlantFields → Step → Option ℕ
waiting_operator plant (steps.Arrive modem heard) = holder plant.rows modem
waiting_operator plant (steps.Work op) = Some op
waiting_operator plant (steps.Tick op) = Some op
waiting_operator plant (steps.Collect op) = Some op
waiting_operator plant (steps.Reslice from rows) = None
