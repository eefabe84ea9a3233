use Rattle.plant_core.proofs.FollowLemmas.{still_follow}
use Rattle.plant_core.proofs.ReachLemmas.{still_reachable}
use Rattle.plant_core.proofs.held.PlantCore.step_into.Goals as goal

pub step_into-requires-clause-follow : goal.step_into-requires-clause-follow
step_into-requires-clause-follow g c = rw c.as_slice-rankings.ensures.value c.args.self.now.follow

pub invariant_of-self : goal.invariant_of-self
invariant_of-self g c = record {
  reached = still_reachable c.step_into.result c.args.step.now _ _ c.args.outs.now.items c.step_into.new.outs.items c.always.ensures.plant c.always.ensures.gathering c.step_into.ensures.ok c.step_into.ensures.err c.args.self.now.reached;
  follow = still_follow c.step_into.result c.args.step.now _ _ c.args.outs.now.items c.step_into.new.outs.items _ c.step_into.ensures.ok c.step_into.ensures.err c.args.self.now.follow;
}
