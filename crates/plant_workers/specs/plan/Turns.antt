-- Where a run's steps are in their operators' histories (implementation-specific).
use Rattle.std.specs.Prelude.{◌≡◌, ℕ, ◌+◌, List, length, take, slice_get, count_by, Some, None}
use Rattle.plant.specs.declared.operator_row.RowFields.{RowFields}
use Rattle.plant.specs.declared.plant.PlantFields.{PlantFields}
use Rattle.operator_model.specs.declared.action.Action.{Action}
use Rattle.operator_model.specs.declared.action.Action.TheVariants.{Tick}
use Rattle.operator_model.specs.Frames.{is_tick}
use Rattle.run_model.specs.declared.step.Step.{Step}
use Rattle.run_model.specs.declared.step.Step.TheVariants as steps
use Rattle.run_model.specs.OwnSteps.{own_steps, collects_of}
use Rattle.plant_workers.specs.audit.Taken.{waiting_operator}

-- the Tick at this place of the actions is the one with so many Ticks before it
pub record IsTickAt (actions : List Action) (count place : ℕ) : Type 0 where
  pub tick : slice_get actions place ≡ Some Tick
  pub counted : count_by is_tick (take place actions) ≡ count

-- at which place of its operator's history a step is due, where these are the operator's own actions before it, of which so
-- many frames were collected: a Collect after the Tick whose frame it takes, any other after all of them
abbrev pub IsDueAt : List Action → ℕ → Step → ℕ → Type 0
IsDueAt own collects (steps.Collect op) turn = (place : ℕ) → IsTickAt own collects place → turn ≡ place + 1
IsDueAt own collects step turn = turn ≡ length own

-- a step's turn after the steps before it; 0 where it waits for none
pub record IsTurn (plant : PlantFields) (before : List Step) (step : Step) (turn : ℕ) : Type 0 where
  pub due : (op : ℕ) (row : RowFields) → waiting_operator plant step ≡ Some op → slice_get plant.rows op ≡ Some row
      → IsDueAt (own_steps row op before) (collects_of op before) step turn
  pub none : waiting_operator plant step ≡ None → turn ≡ 0

-- a turn for each of the steps: its place among its operator's own actions, for a Collect the place after its Tick
pub record AreTurns (plant : PlantFields) (all : List Step) (turns : List ℕ) : Type 0 where
  pub one_each : length turns ≡ length all
  pub each : (at : ℕ) (step : Step) (turn : ℕ) → slice_get all at ≡ Some step → slice_get turns at ≡ Some turn
      → IsTurn plant (take at all) step turn
