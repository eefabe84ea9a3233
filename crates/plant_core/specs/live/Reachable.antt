-- A core that some run of its plant leads to (implementation-specific).
use Rattle.std.specs.Prelude.{◌≡◌, ℕ, List, ◌++◌, Some}
use Rattle.slice_scheduler.specs.declared.elements.ElementsFields.{ElementsFields}
use Rattle.plant.specs.declared.plant.PlantFields.{PlantFields}
use Rattle.operator_model.specs.declared.action.Action.{Action}
use Rattle.operator_model.specs.Replay.{BookView}
use Rattle.map_assembly.specs.Gathering.{Gathering}
use Rattle.run_model.specs.declared.step.Step.{Step}
use Rattle.run_model.specs.declared.step.Out.{Out}
use Rattle.run_model.specs.Ordered.{target}
use Rattle.run_model.specs.IsStateAfter.{CoreView, IsStateAfter}

-- the core of these parts
abbrev pub core_of : PlantFields → List BookView → List (List (ℕ × ElementsFields)) → Gathering → CoreView
core_of plant books queues gathering = record { plant = plant; books = books; queues = queues; gathering = gathering }

-- some steps lead to it from its plant's core as it is opened; the type `PlantCore` keeps it
abbrev pub IsReachable : CoreView → Type 0
IsReachable core = (steps : List Step) × (outs : List Out) × IsStateAfter core.plant steps outs core

-- after whatever steps and outputs led to the one core, these more lead to the other
abbrev pub LeadsOn : CoreView → List Step → List Out → CoreView → Type 0
LeadsOn old steps outs new =
    (before : List Step) (told : List Out) → IsStateAfter old.plant before told old → IsStateAfter old.plant (before ++ steps) (told ++ outs) new

-- some step goes to this operator as this action
abbrev pub IsOfAStep : PlantFields → ℕ → Action → Type 0
IsOfAStep plant op action = (step : Step) × (target plant step ≡ Some (op, action))
