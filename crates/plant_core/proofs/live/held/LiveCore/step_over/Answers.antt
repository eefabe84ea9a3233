use Rattle.plant_core.proofs.LiveLemmas.RunLemmas.{step_more, step_same}
use Rattle.plant_core.proofs.live.held.LiveCore.step_over.Goals as goal

pub invariant_of-self : goal.invariant_of-self
invariant_of-self c =
    let core = c.args.self.now in
    record {
      let_go = rw c.empty.ensures.gather core.let_go;
      reached = rw c.empty.ensures.gather core.reached;
    }

pub returns-clause-ok : goal.returns-clause-ok
returns-clause-ok c =
    let done = c.in_ok-step_into.ensures.ok in
    rw (← c.empty.ensures.gather) (step_same c.args.step c.empty.new.outs.items done.0 c.step_into.new.outs.items _ _ done.2 done.1 c.empty.ensures.outs)

pub returns-clause-reached : goal.returns-clause-reached
returns-clause-reached c =
    let done = c.in_ok-step_into.ensures.ok in
    rw (← c.empty.ensures.gather) (λ start before told after.
    step_more c.args.self.now.routes start before told c.args.step c.empty.new.outs.items done.0 c.step_into.new.outs.items _ _ c.always.ensures.plant done.2 done.1 c.empty.ensures.outs after)
