use Rattle.std.proofs.Common.{List, take}
use Rattle.plant_workers.proofs.ReceiptsLemmas.Common.{All, AllZip, BookView, IsFramePart, AreFramesOf}
use Rattle.plant_workers.proofs.receipts.mapping.are_own_parts.Given as goal

abbrev pub invariant-loop-own : goal.invariant-loop-own
invariant-loop-own l = (books : List BookView) → AllZip AreFramesOf l.all books → All (IsFramePart l.made l.view) (take l.own-index books)
