use Rattle.std.proofs.Common.{◌≡◌, ◌++◌, take}
use Rattle.operator_book.proofs.Common.{flat_map, row_faults_of_flow}
use Rattle.operator_book.proofs.row_fault.push_flows.Given as goal

abbrev pub invariant-loop-sfid : goal.invariant-loop-sfid
invariant-loop-sfid l = l.faults.items ≡ l.fn.faults.items ++ flat_map (row_faults_of_flow l.row) (take l.sfid-index l.flows)
