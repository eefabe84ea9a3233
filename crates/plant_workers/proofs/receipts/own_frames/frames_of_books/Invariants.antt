use Rattle.std.proofs.Common.{take, map}
use Rattle.plant_workers.proofs.ReceiptsLemmas.Common.{AllZip, view_of, AreFramesOf}
use Rattle.plant_workers.proofs.receipts.own_frames.frames_of_books.Given as goal

abbrev pub invariant-loop-book : goal.invariant-loop-book
invariant-loop-book g l = AllZip AreFramesOf l.own.items (map view_of (take l.book-index l.books))
