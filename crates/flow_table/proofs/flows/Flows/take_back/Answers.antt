use Rattle.flow_table.proofs.Common.{taken_back}
use Rattle.flow_table.proofs.MovedLemmas.{told_room, told_table}
use Rattle.flow_table.proofs.StandLemmas.{taken_back_keeps}
use Rattle.flow_table.proofs.flows.Flows.take_back.Goals as goal

pub commit-requires : goal.commit-requires
commit-requires c = told_room c.self.invariant c.args.sfid taken_back c.in-Some.moved c.in-Some.ensures.told

pub invariant_of-self : goal.invariant_of-self
invariant_of-self c =
    let keeps = taken_back_keeps c.self.inside.by_sfid c.args.sfid in
    rw (c.commit.ensures, c.free.ensures, c.take_back.ensures.flows)
    (told_table c.self.invariant c.args.sfid taken_back keeps c.in-Some.moved c.in-Some.ensures.told)
