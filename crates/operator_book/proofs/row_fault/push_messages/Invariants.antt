use Rattle.std.proofs.Common.{◌≡◌, ◌++◌, take}
use Rattle.operator_book.proofs.Common.{flat_map, row_faults_of_message}
use Rattle.operator_book.proofs.row_fault.push_messages.Given as goal

abbrev pub invariant-loop-arrival : goal.invariant-loop-arrival
invariant-loop-arrival l = l.faults.items ≡ l.fn.faults.items ++ flat_map (row_faults_of_message l.row) (take l.arrival-index l.inbox)
