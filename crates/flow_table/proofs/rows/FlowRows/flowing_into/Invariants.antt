use Rattle.std.proofs.Common.{◌≡◌, ◌+◌, ◌≤◌, ◌++◌, length, drop}
use Rattle.std.specs.Prelude.{vec_len, vec_capacity}
use Rattle.flow_table.proofs.Common.{flow_in, flowing_in}
use Rattle.flow_table.proofs.PlacedLemmas.{scheduled_of}
use Rattle.flow_table.proofs.rows.FlowRows.flowing_into.Given as goal

abbrev pub invariant-loop-sfid : goal.invariant-loop-sfid
invariant-loop-sfid l = record {
  items : l.flowing.items ++ scheduled_of (flow_in l.self-inside.flows) (drop l.sfid-index l.sfid-items) ≡ flowing_in l.self;
  room : vec_len l.flowing + length (drop l.sfid-index l.sfid-items) ≤ vec_capacity l.flowing;
}
