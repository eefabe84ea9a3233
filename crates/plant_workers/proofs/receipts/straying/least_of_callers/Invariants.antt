use Rattle.std.proofs.Common.{ℕ, drop, Option}
use Rattle.plant_workers.specs.receipts.Straying.{lesser, IsLeastOr, Strays, AllStand}
use Rattle.plant_workers.proofs.receipts.straying.least_of_callers.Given as goal

abbrev pub invariant-loop-receipts : goal.invariant-loop-receipts
invariant-loop-receipts l = (o : Option ℕ) → IsLeastOr (Strays l.history (drop l.receipts-index l.callers)) (AllStand l.history (drop l.receipts-index l.callers)) o
    → IsLeastOr (Strays l.history l.callers) (AllStand l.history l.callers) (lesser l.least o)
