use Rattle.std.proofs.Common.{◌≡◌, ℕ, ◌+◌, ◌<◌, length, drop, get_or, eqb, count_by}
use Rattle.plant_workers.proofs.ReceiptsLemmas.Common.{min, Receipt}
use Rattle.plant_workers.proofs.receipts.counting.count_receipts.Given as goal

abbrev pub invariant-loop-receipt : goal.invariant-loop-receipt
invariant-loop-receipt l = (k : ℕ) → k < length l.counts → min (get_or l.counts k 0 + count_by (λ (r : Receipt). eqb r.index k) (drop l.receipt-index l.receipts)) 255 ≡ min (get_or l.initial.counts k 0 + count_by (λ (r : Receipt). eqb r.index k) l.receipts) 255
