use Rattle.plant_workers.proofs.ReceiptsLemmas.Common.{view_of, AreFramesOf}
use Rattle.plant_workers.proofs.ReceiptsLemmas.Lists.{zip_more}
use Rattle.plant_workers.proofs.receipts.own_frames.frames_of_books.Goals as goal

pub loop-book-preserved : goal.loop-book-preserved
loop-book-preserved g c =
    zip_more AreFramesOf view_of c.loop-book.own.items c.push.new.self.items c.args.books.now c.loop-book.book-index c.in_ok-frames_of_book.field-0 c.book-item.result
    c.loop-book-test.true c.book-item.is c.loop-book.invariant c.in_ok-frames_of_book.ensures c.in_ok-push.ensures.items
