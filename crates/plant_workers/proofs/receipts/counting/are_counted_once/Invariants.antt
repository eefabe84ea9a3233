use Rattle.std.proofs.Common.{◌≡◌, ℕ, ◌<◌, take, get_or, vec_len}
use Rattle.plant_workers.proofs.ReceiptsLemmas.Common.{min, times}
use Rattle.plant_workers.proofs.receipts.counting.are_counted_once.Given as goal

abbrev pub invariant-loop-receipts : goal.invariant-loop-receipts
invariant-loop-receipts l = record { long : vec_len l.counts ≡ l.entries; counted : (k : ℕ) → k < l.entries → min (get_or l.counts.items k 0) 255 ≡ min (times k (take l.receipts-index l.callers)) 255 }
