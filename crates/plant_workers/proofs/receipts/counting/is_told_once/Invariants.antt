use Rattle.std.proofs.Common.{◌≡◌, take}
use Rattle.plant_workers.proofs.ReceiptsLemmas.Common.{min, times}
use Rattle.plant_workers.proofs.receipts.counting.is_told_once.Given as goal

abbrev pub invariant-loop-receipts : goal.invariant-loop-receipts
invariant-loop-receipts l = l.told ≡ min (times l.index (take l.receipts-index l.callers)) 2
