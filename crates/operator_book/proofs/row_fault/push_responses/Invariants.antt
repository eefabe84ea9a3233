use Rattle.std.proofs.Common.{◌≡◌, ◌++◌, take}
use Rattle.operator_book.proofs.Common.{flat_map, row_faults_of_response}
use Rattle.operator_book.proofs.row_fault.push_responses.Given as goal

abbrev pub invariant-loop-entry : goal.invariant-loop-entry
invariant-loop-entry l = l.faults.items ≡ l.fn.faults.items ++ flat_map (row_faults_of_response l.row) (take l.entry-index l.entries)
