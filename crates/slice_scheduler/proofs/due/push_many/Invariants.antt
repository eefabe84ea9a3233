use Rattle.std.proofs.Common.{◌≡◌, ◌++◌, replicate}
use Rattle.slice_scheduler.proofs.due.push_many.Given as goal

abbrev pub invariant-loop-time : goal.invariant-loop-time
invariant-loop-time l = l.pieces.items ≡ l.fn.pieces.items ++ replicate l._time l.piece
