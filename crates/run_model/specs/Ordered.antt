-- The outputs of a run are in the order of its steps (implementation-specific).
use Rattle.std.specs.Prelude.{◌≡◌, ℕ, List, [], ◌∷◌, ◌++◌, slice_get, Option, Some, None, ◌+◌}
use Rattle.plant.specs.declared.operator_row.RowFields.{RowFields}
use Rattle.plant.specs.declared.plant.PlantFields.{PlantFields}
use Rattle.plant.specs.Roster.{holder}
use Rattle.operator_model.specs.declared.action.Action.{Action}
use Rattle.operator_model.specs.declared.action.Action.TheVariants as actions
use Rattle.operator_model.specs.State.{operator}
use Rattle.operator_model.specs.Machine.{own_step}
use Rattle.run_model.specs.declared.step.Step.{Step}
use Rattle.run_model.specs.declared.step.Step.TheVariants as steps
use Rattle.run_model.specs.declared.step.Out.{Out}
use Rattle.run_model.specs.declared.step.Out.TheVariants as outs
use Rattle.run_model.specs.OwnSteps.{outputs_under}
use Rattle.run_model.specs.Starts.{Start, first_start}
use Rattle.run_model.specs.IsTraceOf.{isolated_run_from, IsLeast}

-- where a step goes: the operator and its action
abbrev pub action_at : Option ℕ → Action → Option (ℕ × Action)
action_at None action = None
action_at (Some i) action = Some (i, action)

-- the operator to which a step goes, and its action; none of a collection and of a slice change
abbrev pub target : PlantFields → Step → Option (ℕ × Action)
target plant (steps.Arrive modem heard) = action_at (holder plant.rows modem) (actions.Arrive modem heard)
target plant (steps.Work op) = Some (op, actions.Work)
target plant (steps.Tick op) = Some (op, actions.Tick)
target plant (steps.Collect op) = None
target plant (steps.Reslice from rows) = None

-- these are the outputs of that action in the operator's own run, under it
pub record AreOwnFrom (plant : PlantFields) (start : Start) (before : List Step) (i : ℕ) (action : Action) (now : List Out) : Type 0 where
  pub row : RowFields
  pub row_is : slice_get plant.rows i ≡ Some row
  pub outputs : now ≡ outputs_under i (own_step (operator plant.consts row (isolated_run_from plant.consts start row i before).state) action).outputs

-- a collection gives the MAP where it raises the least number of collections of all operators, else nothing
abbrev pub IsCollected : PlantFields → List Step → List Step → List Out → Type 0
IsCollected plant before after [] = (n : ℕ) → IsLeast plant before n → IsLeast plant after n
IsCollected plant before after (outs.Map made ∷ []) = (n : ℕ) → IsLeast plant before n → IsLeast plant after (n + 1)
IsCollected plant before after other = ⊥

-- what one step output, after the steps before it
abbrev pub IsToldFrom : PlantFields → Start → List Step → Step → Option (ℕ × Action) → List Out → Type 0
IsToldFrom plant start before step (Some goal) now = AreOwnFrom plant start before goal.0 goal.1 now
IsToldFrom plant start before (steps.Collect op) None now = IsCollected plant before (before ++ steps.Collect op ∷ []) now
IsToldFrom plant start before (steps.Reslice from rows) None now = now ≡ []
IsToldFrom plant start before step None now = ⊥

-- the outputs are one list for each step, joined in the order of the steps
abbrev pub AreInOrderFrom : PlantFields → Start → List Step → List Step → List Out → Type 0
AreInOrderFrom plant start before [] all = all ≡ []
AreInOrderFrom plant start before (step ∷ later) all =
    (now : List Out) × (rest : List Out) × (all ≡ now ++ rest) × IsToldFrom plant start before step (target plant step) now × AreInOrderFrom plant start (before ++ step ∷ []) later rest

-- the outputs of a run from a start are one list for each step, joined in the order of the steps
abbrev pub OrderedFrom : PlantFields → Start → List Step → List Out → Type 0
OrderedFrom plant start all_steps all_outs = AreInOrderFrom plant start [] all_steps all_outs

-- ---- a run from the opened plant

-- these are the outputs of the action in the operator's own run from the opened plant
abbrev pub AreOwn : PlantFields → List Step → ℕ → Action → List Out → Type 0
AreOwn plant before i action now = AreOwnFrom plant (first_start plant) before i action now

-- what one step output, after the steps before it of a run from the opened plant
abbrev pub IsTold : PlantFields → List Step → Step → Option (ℕ × Action) → List Out → Type 0
IsTold plant before step goal now = IsToldFrom plant (first_start plant) before step goal now

-- the same of the steps that are left, after those before them
abbrev pub AreInOrder : PlantFields → List Step → List Step → List Out → Type 0
AreInOrder plant before later all = AreInOrderFrom plant (first_start plant) before later all

-- the outputs of a run from the opened plant are one list for each step, joined in the order of the steps
abbrev pub Ordered : PlantFields → List Step → List Out → Type 0
Ordered plant all_steps all_outs = OrderedFrom plant (first_start plant) all_steps all_outs
