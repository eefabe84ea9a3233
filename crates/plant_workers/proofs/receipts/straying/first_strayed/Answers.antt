use Rattle.std.proofs.Common.{length, map, refl, arith}
use Rattle.plant_workers.proofs.ReceiptsLemmas.Common.{slice_get_read, view_of}
use Rattle.plant_workers.proofs.ReceiptsLemmas.Lists.{map_here}
use Rattle.plant_workers.proofs.ReceiptsLemmas.SettleLemmas.{first_strayed_is, stand_below_more, each_stands}
use Rattle.plant_workers.proofs.receipts.straying.first_strayed.Goals as goal

pub returns-in-Some : goal.returns-in-Some
returns-in-Some g c =
    first_strayed_is (map view_of c.args.books.now) c.args.receipts.now c.loop-op.op c.in-Some.index (view_of c.index-books-op.result) c.index-receipts-op.result c.history.result.now c.as_slice.result.now
    (map_here view_of c.args.books.now c.loop-op.op c.index-books-op.result (omega arith) c.index-books-op.is)
    (slice_get_read c.args.receipts.now (length c.args.receipts.now) c.loop-op.op c.index-receipts-op.result refl c.loop-op-test.true c.index-receipts-op.is)
    c.history.ensures c.as_slice.ensures c.loop-op.invariant c.in-Some.ensures

pub loop-op-preserved : goal.loop-op-preserved
loop-op-preserved g c =
    stand_below_more (map view_of c.args.books.now) c.args.receipts.now c.loop-op.op (view_of c.index-books-op.result) c.index-receipts-op.result c.history.result.now c.as_slice.result.now c.least_of_callers.result
    (map_here view_of c.args.books.now c.loop-op.op c.index-books-op.result (omega arith) c.index-books-op.is)
    (slice_get_read c.args.receipts.now (length c.args.receipts.now) c.loop-op.op c.index-receipts-op.result refl c.loop-op-test.true c.index-receipts-op.is)
    c.history.ensures c.as_slice.ensures c.loop-op.invariant c.in_default.is c.least_of_callers.ensures

pub returns : goal.returns
returns g c = each_stands (map view_of c.args.books.now) c.args.receipts.now c.loop-op.op c.loop-op-test.false c.loop-op.invariant
