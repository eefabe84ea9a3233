use Rattle.std.proofs.Common.{◌≡◌, ◌≤◌, ◌+◌, ◌*◌, drop}
use Rattle.flow_table.specs.Table.{committed_elements}
use Rattle.operator_book.proofs.share_fault.elements_of.Given as goal

abbrev pub invariant-loop-entry : goal.invariant-loop-entry
invariant-loop-entry l = record {
  sum : l.elements + committed_elements l.units (drop l.entry-index l.flows) ≡ committed_elements l.units l.flows;
  few : l.elements ≤ l.entry-index * 4294967295;
}
