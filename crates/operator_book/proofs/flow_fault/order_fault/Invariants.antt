use Rattle.std.proofs.Common.{◌≡◌, drop, None}
use Rattle.operator_book.specs.Resuming.{order_fault}
use Rattle.operator_book.proofs.flow_fault.order_fault.Given as goal

abbrev pub invariant-loop-sfid : goal.invariant-loop-sfid
invariant-loop-sfid l = order_fault l.previous (drop l.sfid-index l.flows) ≡ order_fault None l.flows
