use Rattle.std.proofs.Common.{◌++◌, ◌+◌, drop, map}
use Rattle.plant_script.proofs.Common.{view_of, outs_from, outs_text}
use Rattle.plant_script.proofs.Telling.{books_more, map_left}
use Rattle.plant_script.proofs.on_threads.put_books.Goals as goal

pub loop-op-preserved : goal.loop-op-preserved
loop-op-preserved g c =
    let op = c.loop-op.op in
    books_more c.args.plant.now op (view_of c.index-books-op.result) (map view_of (drop op c.args.books.now)) (map view_of (drop (op + 1) c.args.books.now))
    c.history.result.now (c.loop-op.text.items) (c.put_history.new.text.items)
    (c.args.text.now.items ++ outs_text c.args.plant.now (outs_from 0 (map view_of c.args.books.now)))
    (map_left view_of c.args.books.now op c.index-books-op.result c.loop-op-test.true c.index-books-op.is) c.history.ensures c.in_ok-put_history.ensures c.loop-op.invariant
