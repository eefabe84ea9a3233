use Rattle.plant_core.proofs.LiveLemmas.RunLemmas.{step_more, step_same}
use Rattle.plant_core.proofs.LiveLemmas.FollowingLemmas.{book_policy}
use Rattle.run_model.specs.declared.step.Step.TheVariants as steps
use Rattle.plant_core.specs.live.LiveView.{live_view}
use Rattle.plant_core.proofs.live.held.LiveCore.tick_over_by.Goals as goal

pub invariant_of-self : goal.invariant_of-self
invariant_of-self g c =
    let core = c.args.self.now in
    record {
      let_go = rw c.empty.ensures.gather core.let_go;
      reached = rw c.empty.ensures.gather core.reached;
    }

pub tick_by-requires : goal.tick_by-requires
tick_by-requires g c =
    let live = live_view c.args.self.now in
    book_policy live.books live.plant.rows c.args.op (g.R.Ranks.policy c.args.ranking.now) c.always_policies.ensures c.requires

pub returns-clause-ok : goal.returns-clause-ok
returns-clause-ok g c =
    let done = c.in_ok-tick_by.ensures.ok in
    rw (← c.empty.ensures.gather) (step_same (steps.Tick c.args.op) c.empty.new.outs.items done.0 c.tick_by.new.outs.items _ _ done.2 done.1 c.empty.ensures.outs)

pub returns-clause-reached : goal.returns-clause-reached
returns-clause-reached g c =
    let done = c.in_ok-tick_by.ensures.ok in
    rw (← c.empty.ensures.gather) (λ start before told after.
    step_more c.args.self.now.routes start before told (steps.Tick c.args.op) c.empty.new.outs.items done.0 c.tick_by.new.outs.items _ _ c.always.ensures.plant done.2 done.1 c.empty.ensures.outs after)
