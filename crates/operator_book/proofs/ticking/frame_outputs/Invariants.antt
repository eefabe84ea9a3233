use Rattle.std.proofs.Common.{◌≡◌, ◌++◌, map}
use Rattle.operator_model.specs.Frame.{resent}
use Rattle.operator_book.proofs.ticking.frame_outputs.Given as goal

abbrev pub invariant-loop-resend : goal.invariant-loop-resend
invariant-loop-resend l = l.told.items ++ map resent l.resend-iterator.rest.items ≡ map resent l.fn.resends
