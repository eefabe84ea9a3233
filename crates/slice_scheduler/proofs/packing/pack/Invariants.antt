use Rattle.std.proofs.Common.{◌≡◌, ◌+◌, take}
use Rattle.slice_scheduler.specs.Schedule.{spans_from, minislots_in}
use Rattle.slice_scheduler.proofs.packing.pack.Given as goal

abbrev pub invariant-loop-piece : goal.invariant-loop-piece
invariant-loop-piece l = record {
  items : l.spans.items ≡ spans_from l.slice.start (take l.piece-index l.pieces);
  start : l.start ≡ l.slice.start + minislots_in (take l.piece-index l.pieces);
}
