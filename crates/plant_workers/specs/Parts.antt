-- What each thread of a run does (implementation-specific).
use Rattle.std.specs.Prelude.{◌≡◌, Option, Some, None}
use Rattle.operator_model.specs.declared.action.Action.{Action}
use Rattle.operator_model.specs.declared.action.Action.TheVariants as actions
use Rattle.run_model.specs.declared.step.Step.{Step}
use Rattle.run_model.specs.declared.step.Step.TheVariants as steps
use Rattle.plant_workers.specs.declared.receipts.caller.Caller.{Caller}
use Rattle.plant_workers.specs.declared.receipts.caller.Caller.TheVariants as callers
use Rattle.plant_workers.specs.declared.part.Part.{Part}
use Rattle.plant_workers.specs.declared.part.Part.TheVariants.{Arrivals, Ticks, Worker}

-- the caller that the thread of a part is
abbrev pub caller_in : Part → Caller
caller_in Arrivals = callers.Dispatcher
caller_in Ticks = callers.Ticker
caller_in (Worker op) = callers.Worker

-- the step is of this part: the Arrives are the dispatcher's, the Ticks the ticker's, and a worker's are the Works and the
-- Collects of its operator
abbrev pub IsOfPart : Part → Step → Type 0
IsOfPart Arrivals (steps.Arrive modem heard) = Unit {0}
IsOfPart Ticks (steps.Tick op) = Unit {0}
IsOfPart (Worker i) (steps.Work op) = i ≡ op
IsOfPart (Worker i) (steps.Collect op) = i ≡ op
IsOfPart part step = ⊥

-- the action that a step is of its operator; none of a Collect and a `Reslice`
abbrev pub action_in : Step → Option Action
action_in (steps.Arrive modem heard) = Some (actions.Arrive modem heard)
action_in (steps.Work op) = Some actions.Work
action_in (steps.Tick op) = Some actions.Tick
action_in (steps.Collect op) = None
action_in (steps.Reslice from rows) = None
