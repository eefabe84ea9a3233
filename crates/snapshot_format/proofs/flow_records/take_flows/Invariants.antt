use Rattle.std.proofs.Common.{◌≡◌, ◌-◌, []}
use Rattle.snapshot_format.proofs.Common.{take_items, take_flow, flow_follows}
use Rattle.snapshot_format.proofs.flow_records.take_flows.Given as goal

abbrev pub invariant-loop : goal.invariant-loop
invariant-loop l = take_items take_flow flow_follows (l.count - l.counter) l.flows.items l.rest ≡ take_items take_flow flow_follows l.count [] l.bytes
