use Rattle.std.proofs.Common.{◌≡◌, take}
use Rattle.flow_table.specs.Table.{committed_minislots}
use Rattle.trace_report.proofs.checks.holding.minislots_of.Given as goal

abbrev pub invariant-loop-sfid : goal.invariant-loop-sfid
invariant-loop-sfid l = l.total ≡ committed_minislots l.units (take l._sfid-index l.flows)
