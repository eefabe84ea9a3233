use Rattle.std.proofs.Common.{◌≡◌, ◌++◌}
use Rattle.operator_book.proofs.state_view.inbox_copy.Given as goal

abbrev pub invariant-loop-arrival : goal.invariant-loop-arrival
invariant-loop-arrival l = l.copies.items ++ (l.arrival-iterator.head.now ++ l.arrival-iterator.wrapped.now) ≡ l.inbox.items
