use Rattle.std.proofs.Common.{ℕ, All, take}
use Rattle.operator_book.proofs.Common.{Flow, IsTypedFlow}
use Rattle.operator_book.proofs.resuming.flows_are_typed.Given as goal

abbrev pub invariant-loop-entry : goal.invariant-loop-entry
invariant-loop-entry l = All (λ (entry : ℕ × Flow). IsTypedFlow entry.1) (take l.entry-index l.flows)
