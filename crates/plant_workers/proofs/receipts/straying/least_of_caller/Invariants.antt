use Rattle.std.proofs.Common.{ℕ, drop, Option, None}
use Rattle.plant_workers.specs.receipts.Straying.{lesser, IsLeastOr, StraysBehind, StandBehind}
use Rattle.plant_workers.proofs.receipts.straying.least_of_caller.Given as goal

abbrev pub invariant-loop-receipt : goal.invariant-loop-receipt
invariant-loop-receipt l = (o : Option ℕ) → IsLeastOr (StraysBehind l.history l.before (drop l.receipt-index l.receipts)) (StandBehind l.history l.before (drop l.receipt-index l.receipts)) o
    → IsLeastOr (StraysBehind l.history None l.receipts) (StandBehind l.history None l.receipts) (lesser l.least o)
