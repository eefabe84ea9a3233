use Rattle.std.proofs.Common.{◌≡◌, take}
use Rattle.frame_numbers.proofs.renumbering.copy_responses.Given as goal

abbrev pub invariant-loop-entry : goal.invariant-loop-entry
invariant-loop-entry l = l.copies.items ≡ take l.entry-index l.kept
