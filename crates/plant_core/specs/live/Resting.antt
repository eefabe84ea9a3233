-- A live core at rest before a frame (implementation-specific).
use Rattle.std.specs.Prelude.{◌≡◌, ◌≢◌, ℕ, List, [], take, slice_get, Some}
use Rattle.slice_scheduler.specs.declared.elements.ElementsFields.{ElementsFields}
use Rattle.plant.specs.declared.operator_row.RowFields.{RowFields}
use Rattle.plant.specs.declared.plant.PlantFields.{PlantFields}
use Rattle.operator_model.specs.Replay.{BookView}
use Rattle.run_model.specs.declared.step.Step.{Step}
use Rattle.run_model.specs.declared.step.Out.{Out}
use Rattle.run_model.specs.Starts.{Start}
use Rattle.run_model.specs.IsStateAfter.{CoreView}
use Rattle.run_model.specs.Changing.{state_now, IsAtRest}
use Rattle.plant_core.specs.declared.live.rest_fault.RestFault.{RestFault}
use Rattle.plant_core.specs.declared.live.rest_fault.RestFault.TheVariants.{FrameWaits, NotAtFrame}
use Rattle.plant_core.specs.live.After.{IsAfterFrom}

-- each operator is before this frame, and no frame waits to be collected
pub record Rests (live : CoreView) (frame : ℕ) : Type 0 where
  pub before : (i : ℕ) (book : BookView) → slice_get live.books i ≡ Some book → book.state.frame ≡ frame
  pub none_waits : (i : ℕ) (waiting : List (ℕ × ElementsFields)) → slice_get live.queues i ≡ Some waiting → waiting ≡ []

-- the states of a core that rests are those in which its operators exist, and nothing of its run is left to be collected
abbrev pub RestingIsAtRest : Type 0
RestingIsAtRest = (plant : PlantFields) (start : Start) (steps : List Step) (outs : List Out) (live : CoreView) (frame : ℕ) → IsAfterFrom plant start steps outs live → Rests live frame
    → IsAtRest (record { plant = plant; start = start; steps = steps; outs = outs }) frame

-- after a run from any start, each book has its operator's row and is in the state in which the run leaves the operator's own machine
abbrev pub BooksStandNow : Type 0
BooksStandNow = (plant : PlantFields) (start : Start) (steps : List Step) (outs : List Out) (live : CoreView) → IsAfterFrom plant start steps outs live → (i : ℕ) (row : RowFields) (book : BookView)
    → slice_get plant.rows i ≡ Some row → slice_get live.books i ≡ Some book → (book.row ≡ row) × (book.state ≡ state_now (record { plant = plant; start = start; steps = steps; outs = outs }) i row)

-- ---- why a core does not rest

-- this operator does not rest before this frame, for the reason that the fault names: a frame of it waits, or none does and it is before
-- another frame
abbrev pub IsRestless : ℕ → ℕ → BookView → List (ℕ × ElementsFields) → RestFault → Type 0
IsRestless frame op book waiting (FrameWaits at) = (at ≡ op) × (waiting ≢ [])
IsRestless frame op book waiting (NotAtFrame at) = (at ≡ op) × (waiting ≡ []) × (book.state.frame ≢ frame)

-- an operator does not rest before the frame of the first one, for the reason that the fault names, and those before it do
pub record IsRestFault (live : CoreView) (fault : RestFault) : Type 0 where
  pub op : ℕ
  pub first : BookView
  pub first_is : slice_get live.books 0 ≡ Some first
  pub front_rests : Rests (record live { books = take op live.books; queues = take op live.queues }) first.state.frame
  pub book : BookView
  pub book_is : slice_get live.books op ≡ Some book
  pub waiting : List (ℕ × ElementsFields)
  pub waiting_is : slice_get live.queues op ≡ Some waiting
  pub why : IsRestless first.state.frame op book waiting fault
