use Rattle.std.proofs.Common.{◌≡◌, drop}
use Rattle.operator_book.specs.Resuming.{first_fault_in, flow_fault}
use Rattle.operator_book.proofs.flow_fault.flows_fault.Given as goal

abbrev pub invariant-loop-sfid : goal.invariant-loop-sfid
invariant-loop-sfid l = first_fault_in (flow_fault l.row l.frame) (drop l.sfid-index l.flows) ≡ first_fault_in (flow_fault l.row l.frame) l.flows
