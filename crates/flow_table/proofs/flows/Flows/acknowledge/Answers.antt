use Rattle.flow_table.proofs.Common.{flow_after_ack}
use Rattle.flow_table.proofs.MovedLemmas.{told_room, told_table}
use Rattle.flow_table.proofs.StandLemmas.{acknowledged_keeps}
use Rattle.flow_table.proofs.flows.Flows.acknowledge.Goals as goal

pub commit-requires : goal.commit-requires
commit-requires c = told_room c.self.invariant c.args.sfid (flow_after_ack c.args.frame) c.in-Some.moved c.in-Some.ensures.told

pub invariant_of-self : goal.invariant_of-self
invariant_of-self c =
    let change = flow_after_ack c.args.frame in
    let keeps = acknowledged_keeps c.self.inside.by_sfid c.args.sfid in
    rw (c.commit.ensures, c.free.ensures, c.acknowledge.ensures.flows)
    (told_table c.self.invariant c.args.sfid change (λ old at. keeps old c.args.frame at) c.in-Some.moved c.in-Some.ensures.told)
