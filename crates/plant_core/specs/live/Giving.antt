-- New slices, given to all operators (implementation-specific).
use Rattle.std.specs.Prelude.{◌≡◌, ℕ, List, length, slice_get, Some}
use Rattle.slice_scheduler.specs.Minislots.{IsSlice}
use Rattle.operator_model.specs.declared.action.SliceRow.{SliceRow}
use Rattle.operator_model.specs.declared.action.Action.TheVariants as actions
use Rattle.operator_model.specs.Replay.{BookView, book_after_action}
use Rattle.run_model.specs.OwnSteps.{slice_of}
use Rattle.run_model.specs.Places.{AtEachPlace}

-- a row's slice is one
abbrev pub IsOfASlice : SliceRow → Type 0
IsOfASlice row = IsSlice (slice_of row)

-- each book has become what its row makes of it
pub record HaveTakenAs (after : BookView → SliceRow → BookView) (rows : List SliceRow) (old new : List BookView) : Type 0 where
  pub one_each : length new ≡ length old
  pub taken : AtEachPlace rows old (λ i row book. slice_get new i ≡ Some (after book row))

-- each book has taken its row
abbrev pub HaveTaken : ℕ → List SliceRow → List BookView → List BookView → Type 0
HaveTaken from rows old new = HaveTakenAs (λ book row. book_after_action book (actions.Reslice from row)) rows old new
