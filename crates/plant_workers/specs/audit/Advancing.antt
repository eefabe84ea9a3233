-- How far the first steps of a run lead each operator's history, as one walk over all steps keeps it (implementation-specific).
use Rattle.std.specs.Prelude.{◌≡◌, ℕ, ◌+◌, ◌≤◌, List, length, take, slice_get, Option, Some, None}
use Rattle.plant.specs.declared.operator_row.RowFields.{RowFields}
use Rattle.plant.specs.declared.plant.PlantFields.{PlantFields}
use Rattle.operator_model.specs.declared.action.Action.{Action}
use Rattle.operator_model.specs.Replay.{BookView, actions_of, IsReplayed}
use Rattle.run_model.specs.declared.step.Step.{Step}
use Rattle.run_model.specs.OwnSteps.{own_steps}

-- an operator's own action, if there is one, is its history's next, and its place is then past it
abbrev pub Advances : List Action → Option Action → ℕ → ℕ → Type 0
Advances history None old new = new ≡ old
Advances history (Some action) old new = (slice_get history old ≡ Some action) × (new ≡ old + 1)

-- the operator's own actions among these steps are the first so many of its history
pub record HasAdvanced (row : RowFields) (op : ℕ) (before : List Step) (book : BookView) (place : ℕ) : Type 0 where
  pub within : place ≤ length book.history
  pub own : own_steps row op before ≡ take place (actions_of book.history)

-- the same of each operator
pub record HaveAdvanced (plant : PlantFields) (books : List BookView) (before : List Step) (places : List ℕ) : Type 0 where
  pub one_each : length places ≡ length plant.rows
  pub each : (op : ℕ) (row : RowFields) (book : BookView) (place : ℕ) → slice_get plant.rows op ≡ Some row
      → slice_get books op ≡ Some book → slice_get places op ≡ Some place → HasAdvanced row op before book place

-- the book is of this row and of the plant's constants, its state is the replay of its history, and the history has no action
-- past this place
pub record EndsAt (plant : PlantFields) (row : RowFields) (book : BookView) (place : ℕ) : Type 0 where
  pub row_is : book.row ≡ row
  pub consts_are : book.consts ≡ plant.consts
  pub replayed : IsReplayed book
  pub end : length book.history ≤ place

-- the same of each operator
abbrev pub AllEndAt : PlantFields → List BookView → List ℕ → Type 0
AllEndAt plant books places =
    (op : ℕ) (row : RowFields) (book : BookView) (place : ℕ) → slice_get plant.rows op ≡ Some row
    → slice_get books op ≡ Some book → slice_get places op ≡ Some place → EndsAt plant row book place
