use Rattle.std.proofs.Common.{◌≡◌, take}
use Rattle.flow_table.specs.Table.{sfids_of}
use Rattle.trace_report.proofs.checks.operator_snapshot.sfids_in.Given as goal

abbrev pub invariant-loop-sfid : goal.invariant-loop-sfid
invariant-loop-sfid l = l.sfids.items ≡ sfids_of (take l.sfid-index l.flows)
