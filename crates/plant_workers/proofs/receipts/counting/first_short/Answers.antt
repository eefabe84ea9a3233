use Rattle.std.proofs.Common.{length, map, refl, sym, ◌∙◌, arith}
use Rattle.plant_workers.proofs.ReceiptsLemmas.Common.{false≢true, slice_get_read, view_of}
use Rattle.plant_workers.proofs.ReceiptsLemmas.Lists.{map_here}
use Rattle.plant_workers.proofs.ReceiptsLemmas.SettleLemmas.{first_short_is, short_more, none_short}
use Rattle.plant_workers.proofs.receipts.counting.first_short.Goals as goal

pub returns-then-not-are_told_once : goal.returns-then-not-are_told_once
returns-then-not-are_told_once g c =
    first_short_is (map view_of c.args.books.now) c.args.receipts.now c.loop-op.op (view_of c.index-books-op.result) c.index-receipts-op.result c.history.result.now c.as_slice.result.now
    (map_here view_of c.args.books.now c.loop-op.op c.index-books-op.result (omega arith) c.index-books-op.is)
    (slice_get_read c.args.receipts.now (length c.args.receipts.now) c.loop-op.op c.index-receipts-op.result refl c.loop-op-test.true c.index-receipts-op.is)
    c.history.ensures c.as_slice.ensures
    (λ once. false≢true (sym c.if-not-are_told_once.true ∙ c.are_told_once.ensures.1 once)) c.loop-op.invariant

pub loop-op-preserved : goal.loop-op-preserved
loop-op-preserved g c =
    short_more (map view_of c.args.books.now) c.args.receipts.now c.loop-op.op (view_of c.index-books-op.result) c.index-receipts-op.result c.history.result.now c.as_slice.result.now
    (map_here view_of c.args.books.now c.loop-op.op c.index-books-op.result (omega arith) c.index-books-op.is)
    (slice_get_read c.args.receipts.now (length c.args.receipts.now) c.loop-op.op c.index-receipts-op.result refl c.loop-op-test.true c.index-receipts-op.is)
    c.history.ensures c.as_slice.ensures
    (c.are_told_once.ensures.0 c.if-not-are_told_once.false) c.loop-op.invariant

pub returns : goal.returns
returns g c = none_short (map view_of c.args.books.now) c.args.receipts.now c.loop-op.op c.loop-op-test.false c.loop-op.invariant
