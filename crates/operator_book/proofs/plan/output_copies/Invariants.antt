use Rattle.std.proofs.Common.{◌≡◌, take}
use Rattle.operator_book.proofs.plan.output_copies.Given as goal

abbrev pub invariant-loop-output : goal.invariant-loop-output
invariant-loop-output l = l.copies.items ≡ take l.output-index l.outputs
