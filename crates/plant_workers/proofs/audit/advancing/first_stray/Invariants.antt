use Rattle.std.proofs.Common.{◌≡◌, ℕ, ◌<◌, map, Some}
use Rattle.plant_workers.proofs.AuditLemmas.Common.{slice_get, RowFields, BookView, view_of, IsBookAfter}
use Rattle.plant_workers.proofs.audit.advancing.first_stray.Given as goal

abbrev pub invariant-loop-op : goal.invariant-loop-op
invariant-loop-op g l =
    (i : ℕ) (row : RowFields) (book : BookView) → i < l.op → slice_get l.plant.rows i ≡ Some row → slice_get (map view_of l.books) i ≡ Some book → IsBookAfter l.plant l.steps i row book
