use Rattle.std.proofs.Common.{◌≡◌, ℕ, ◌<◌, List, map, Some}
use Rattle.plant_workers.proofs.ReceiptsLemmas.Common.{slice_get, BookView, view_of, Receipt, AllStand}
use Rattle.plant_workers.proofs.receipts.straying.first_strayed.Given as goal

abbrev pub invariant-loop-op : goal.invariant-loop-op
invariant-loop-op g l = (i : ℕ) (book : BookView) (callers : List (List Receipt)) → i < l.op
    → slice_get (map view_of l.books) i ≡ Some book → slice_get l.receipts i ≡ Some callers → AllStand book.history callers
