-- A live core after a run (implementation-specific).
use Rattle.std.specs.Prelude.{◌≡◌, ℕ, List, [], ◌++◌, length, slice_get, Some}
use Rattle.slice_scheduler.specs.declared.elements.ElementsFields.{ElementsFields}
use Rattle.plant.specs.declared.operator_row.RowFields.{RowFields}
use Rattle.plant.specs.declared.plant.PlantFields.{PlantFields}
use Rattle.plant.specs.Plant.{AgreeOn}
use Rattle.operator_model.specs.State.{operator}
use Rattle.operator_model.specs.Slices.{MayRun}
use Rattle.operator_model.specs.Replay.{BookView}
use Rattle.map_assembly.specs.Gathering.{Gathering, IsGathering}
use Rattle.map_assembly.specs.LettingGo.{GoesOnAlike}
use Rattle.run_model.specs.declared.step.Step.{Step}
use Rattle.run_model.specs.declared.step.Out.{Out}
use Rattle.run_model.specs.OwnSteps.{own_steps, maps_in}
use Rattle.run_model.specs.Starts.{Start, first_start, IsStart}
use Rattle.run_model.specs.IsTraceOf.{isolated_run_from, IsTraceOf, IsTraceFrom}
use Rattle.run_model.specs.Ordered.{OrderedFrom}
use Rattle.run_model.specs.Places.{AtEachPlace}
use Rattle.run_model.specs.NonInterference.{NoticeTheSame}
use Rattle.run_model.specs.IsStateAfter.{CoreView, AreFramesFrom, IsGatheredFrom}

-- an operator after these steps: its state is that of its own machine run alone, and each action was allowed where it was taken
pub record IsOperatorFrom (plant : PlantFields) (start : Start) (steps : List Step) (i : ℕ) (row : RowFields) (book : BookView) : Type 0 where
  pub row_is : book.row ≡ row
  pub consts_are : book.consts ≡ plant.consts
  pub state_is : book.state ≡ (isolated_run_from plant.consts start row i steps).state
  pub may : MayRun (operator plant.consts row (start.state row)) (own_steps row i steps)
  pub no_history : book.history ≡ []

-- what a live core is after these steps from a valid start, with these outputs: each operator is as its own machine run alone, its frames
-- that were not collected wait, and the assembly holds those that were collected and are in no MAP, but for slices that no frame to come
-- needs; the run is `IsTraceFrom` and `OrderedFrom` the start
pub record IsAfterFrom (plant : PlantFields) (start : Start) (steps : List Step) (outs : List Out) (live : CoreView) : Type 0 where
  pub starts : IsStart plant start
  pub plant_is : live.plant ≡ plant
  pub shown : IsTraceFrom plant start steps outs
  pub ordered : OrderedFrom plant start steps outs
  pub one_book : length live.books ≡ length plant.rows
  pub one_queue : length live.queues ≡ length plant.rows
  pub operators : AtEachPlace plant.rows live.books (IsOperatorFrom plant start steps)
  pub gathering : Gathering
  pub gathered : IsGatheredFrom plant start steps outs gathering
  pub frames : (i : ℕ) (row : RowFields) (waiting : List (ℕ × ElementsFields)) (put : List ElementsFields) → slice_get plant.rows i ≡ Some row
      → slice_get live.queues i ≡ Some waiting → slice_get gathering.queues i ≡ Some put → AreFramesFrom plant start steps (length (maps_in outs)) i row waiting put
  pub gathering_is : GoesOnAlike gathering live.gathering
  pub held : IsGathering gathering

-- what a live core is after these steps from the opened plant
abbrev pub IsAfter : PlantFields → List Step → List Out → CoreView → Type 0
IsAfter plant steps outs live = IsAfterFrom plant (first_start plant) steps outs live

-- some run of its plant leads to the live core; the type `LiveCore` keeps it
abbrev pub IsReachableFromStart : CoreView → Type 0
IsReachableFromStart live = (start : Start) × (steps : List Step) × (outs : List Out) × IsAfterFrom live.plant start steps outs live

-- after whatever start, steps and outputs led to the one live core, these more lead to the other
abbrev pub LeadsOnFromStart : CoreView → List Step → List Out → CoreView → Type 0
LeadsOnFromStart old steps outs new =
    (start : Start) (before : List Step) (told : List Out) → IsAfterFrom old.plant start before told old → IsAfterFrom old.plant start (before ++ steps) (told ++ outs) new

-- this holds of a plant, its start, steps and outputs, whatever they are that led to the live core
abbrev pub BehindEachRun : CoreView → (PlantFields → Start → List Step → List Out → Type 0) → Type 0
BehindEachRun live holds =
    (plant : PlantFields) (start : Start) (before : List Step) (told : List Out) → IsAfterFrom plant start before told live → holds plant start before told

-- the non-interference theorem, at a live core next to any run of a plant, whatever carried it out: where they agree on an operator's
-- provisioning and own steps, the operator notices the same
abbrev pub TwoLiveCores : Type 0
TwoLiveCores = (live : CoreView) (p q : PlantFields) (i j : ℕ) (s t : List Step) (o u : List Out) (agree : AgreeOn p i q j)
    → IsAfter p s o live → IsTraceOf q t u → own_steps agree.row i s ≡ own_steps agree.row j t → NoticeTheSame p i o q j u agree

-- the same at a core that was resumed, where the operator started in one state too
abbrev pub TwoResumedCores : Type 0
TwoResumedCores = (live : CoreView) (p q : PlantFields) (a b : Start) (i j : ℕ) (s t : List Step) (o u : List Out) (agree : AgreeOn p i q j)
    → IsAfterFrom p a s o live → IsTraceFrom q b t u → a.state agree.row ≡ b.state agree.row → own_steps agree.row i s ≡ own_steps agree.row j t
    → NoticeTheSame p i o q j u agree
