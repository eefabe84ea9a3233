use Rattle.std.proofs.Common.{◌≡◌, take}
use Rattle.operator_book.proofs.state_view.kept_copy.Given as goal

abbrev pub invariant-loop-entry : goal.invariant-loop-entry
invariant-loop-entry l = l.copies.items ≡ take l.entry-index l.kept
