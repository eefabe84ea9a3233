use Rattle.std.proofs.Common.{◌∙◌, arith}
use Rattle.slice_scheduler.proofs.Common.{recursion_from_All, HasMinislots}
use Rattle.slice_scheduler.proofs.PackedLemmas.{packed-more, start-more, packed-rest, packed-no_rest, packed_whole}
use Rattle.slice_scheduler.proofs.packing.pack.Goals as goal

pub loop-piece-preserved : goal.loop-piece-preserved
loop-piece-preserved c = record {
  items = c.in_ok-push.ensures.items ∙ packed-more c.args.slice.now.start c.args.pieces.now c.loop-piece.piece-index _ c.loop-piece.start c.loop-piece.spans.items c.loop-piece-test.true c.loop-piece.invariant.items c.loop-piece.invariant.start;
  start = start-more c.args.slice.now.start c.args.pieces.now c.loop-piece.piece-index _ c.loop-piece.start c.loop-piece-test.true c.loop-piece.invariant.start;
}

pub returns-in_ok-push-2-clause-items : goal.returns-in_ok-push-2-clause-items
returns-in_ok-push-2-clause-items c = c.in_ok-push-2.ensures.items ∙ packed-rest c.args.slice.now.start c.args.slice.now.length c.args.pieces.now c.loop-piece.piece-index c.loop-piece.start _ c.loop-piece.spans.items c.loop-piece-test.false c.loop-piece.invariant.items c.loop-piece.invariant.start (omega (arith, c.get_start.ensures.value, c.get_length.ensures.value)) c.if-start-end.true

pub returns-in_ok-push-2-clause-tiles : goal.returns-in_ok-push-2-clause-tiles
returns-in_ok-push-2-clause-tiles c = rw (returns-in_ok-push-2-clause-items c) (packed_whole c.args.slice.now.start c.args.slice.now.length c.args.pieces.now (recursion_from_All HasMinislots c.args.pieces.now c.requires.some) c.requires.fits)

pub returns-else-start-end-clause-items : goal.returns-else-start-end-clause-items
returns-else-start-end-clause-items c = packed-no_rest c.args.slice.now.start c.args.slice.now.length c.args.pieces.now c.loop-piece.piece-index c.loop-piece.start _ c.loop-piece.spans.items c.loop-piece-test.false c.loop-piece.invariant.items c.loop-piece.invariant.start (omega (arith, c.get_start.ensures.value, c.get_length.ensures.value)) c.if-start-end.false

pub returns-else-start-end-clause-tiles : goal.returns-else-start-end-clause-tiles
returns-else-start-end-clause-tiles c = rw (returns-else-start-end-clause-items c) (packed_whole c.args.slice.now.start c.args.slice.now.length c.args.pieces.now (recursion_from_All HasMinislots c.args.pieces.now c.requires.some) c.requires.fits)
