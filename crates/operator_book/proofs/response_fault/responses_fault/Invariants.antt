use Rattle.std.proofs.Common.{◌≡◌, drop}
use Rattle.operator_book.specs.Resuming.{first_fault_in, response_fault}
use Rattle.operator_book.proofs.response_fault.responses_fault.Given as goal

abbrev pub invariant-loop-entry : goal.invariant-loop-entry
invariant-loop-entry l = first_fault_in (response_fault l.row l.flows.flows) (drop l.entry-index l.entries) ≡ first_fault_in (response_fault l.row l.flows.flows) l.entries
