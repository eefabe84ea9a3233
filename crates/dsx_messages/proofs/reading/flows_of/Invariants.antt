use Rattle.std.proofs.Common.{◌≡◌, [], length}
use Rattle.dsx_messages.proofs.Common.{front_of, values_of, upstream_service_flow, flows_read_after}
use Rattle.dsx_messages.proofs.reading.flows_of.Given as goal

abbrev pub invariant-loop-first : goal.invariant-loop-first
invariant-loop-first l =
    flows_read_after l.tid l.kind l.flows.items (values_of upstream_service_flow (front_of l.rest).tlvs) ≡ flows_read_after l.tid l.kind [] (values_of upstream_service_flow (front_of l.list).tlvs)

abbrev pub decreases-loop-first : goal.decreases-loop-first
decreases-loop-first l = length l.rest
