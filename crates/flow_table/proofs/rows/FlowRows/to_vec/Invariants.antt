use Rattle.std.proofs.Common.{◌≡◌, ◌++◌}
use Rattle.flow_table.specs.Index.{flows_of}
use Rattle.flow_table.proofs.rows.FlowRows.to_vec.Given as goal

abbrev pub invariant-loop-sfid : goal.invariant-loop-sfid
invariant-loop-sfid l = l.flows.items ++ flows_of l.self-inside.flows l.sfid-iterator ≡ l.self
