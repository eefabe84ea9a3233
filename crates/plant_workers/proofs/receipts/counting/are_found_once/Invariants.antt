use Rattle.std.proofs.Common.{◌≡◌, ℕ, ◌<◌}
use Rattle.plant_workers.specs.receipts.Merge.{times}
use Rattle.plant_workers.proofs.receipts.counting.are_found_once.Given as goal

abbrev pub invariant-loop-index : goal.invariant-loop-index
invariant-loop-index l = (k : ℕ) → k < l.index → times k l.callers ≡ 1
