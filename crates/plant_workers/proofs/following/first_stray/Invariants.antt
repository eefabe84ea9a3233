use Rattle.std.proofs.Common.{◌≡◌, ℕ, ◌<◌, map, Some}
use Rattle.plant_workers.proofs.Common.{slice_get, RowFields, BookView, cell_book, IsBookAfter}
use Rattle.plant_workers.proofs.following.first_stray.Given as goal

abbrev pub invariant-loop-op : goal.invariant-loop-op
invariant-loop-op g l =
    (i : ℕ) (row : RowFields) (book : BookView) → i < l.op → slice_get l.plant.rows i ≡ Some row → slice_get (map cell_book l.helds) i ≡ Some book → IsBookAfter l.plant l.steps i row book
