use Rattle.std.proofs.Common.{All}
use Rattle.plant_workers.specs.receipts.Callers.{AreByCallers}
use Rattle.plant_workers.proofs.receipt_lists.callers_of.Given as goal

abbrev pub invariant-loop-list : goal.invariant-loop-list
invariant-loop-list l = All AreByCallers l.callers.items
