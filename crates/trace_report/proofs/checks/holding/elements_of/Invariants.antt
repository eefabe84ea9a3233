use Rattle.std.proofs.Common.{◌≡◌, take}
use Rattle.flow_table.specs.Table.{committed_elements}
use Rattle.trace_report.proofs.checks.holding.elements_of.Given as goal

abbrev pub invariant-loop-sfid : goal.invariant-loop-sfid
invariant-loop-sfid l = l.total ≡ committed_elements l.units (take l._sfid-index l.flows)
