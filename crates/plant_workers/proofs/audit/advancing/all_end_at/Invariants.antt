use Rattle.std.proofs.Common.{◌≡◌, ℕ, ◌<◌, map, Some}
use Rattle.plant_workers.proofs.AuditLemmas.Common.{slice_get, RowFields, BookView, view_of, EndsAt}
use Rattle.plant_workers.proofs.audit.advancing.all_end_at.Given as goal

abbrev pub invariant-loop-op : goal.invariant-loop-op
invariant-loop-op g l =
    (i : ℕ) (row : RowFields) (book : BookView) (place : ℕ) → i < l.op → slice_get l.plant.rows i ≡ Some row → slice_get (map view_of l.books) i ≡ Some book → slice_get l.places i ≡ Some place
    → EndsAt l.plant row book place
