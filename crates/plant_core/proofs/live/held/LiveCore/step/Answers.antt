use Rattle.plant_core.proofs.LiveLemmas.RunLemmas.{step_more, step_same}
use Rattle.plant_core.proofs.live.held.LiveCore.step.Goals as goal

pub returns-clause-ok : goal.returns-clause-ok
returns-clause-ok c =
    let done = c.in_ok-step_into.ensures.ok in
    step_same c.args.step c.new-outs.result.items done.0 c.step_into.new.outs.items _ _ done.2 done.1 c.new-outs.ensures.items

pub returns-clause-reached : goal.returns-clause-reached
returns-clause-reached c = λ start before told after.
    let done = c.in_ok-step_into.ensures.ok in
    step_more c.args.self.now.routes start before told c.args.step c.new-outs.result.items done.0 c.step_into.new.outs.items _ _ c.always.ensures.plant done.2 done.1 c.new-outs.ensures.items after
