use Rattle.std.proofs.Common.{◌+◌, ◌<◌, length, get_or, eqb, count_by, arith}
use Rattle.plant_workers.proofs.ReceiptsLemmas.Common.{min, Receipt}
use Rattle.plant_workers.proofs.ReceiptsLemmas.MappingLemmas.{count_end}
use Rattle.plant_workers.proofs.receipts.counting.count_receipts.Goals as goal

pub returns : goal.returns
returns c = λ k lt.
    let within : k < length c.loop-receipt.counts = omega arith in
    count_end (λ (r : Receipt). eqb r.index k) c.args.receipts.now c.loop-receipt.receipt-index (get_or c.loop-receipt.counts k 0)
    (min (get_or c.args.counts.now k 0 + count_by (λ (r : Receipt). eqb r.index k) c.args.receipts.now) 255) c.loop-receipt-test.false (c.loop-receipt.invariant k within)
