use Rattle.std.proofs.Common.{ℕ, ◌<◌, map}
use Rattle.plant_workers.proofs.ReceiptsLemmas.Common.{view_of, IsShort}
use Rattle.plant_workers.proofs.receipts.counting.first_short.Given as goal

abbrev pub invariant-loop-op : goal.invariant-loop-op
invariant-loop-op g l = (i : ℕ) → i < l.op → ¬ IsShort (map view_of l.books) l.receipts i
