use Rattle.plant_core.specs.CoreView.{core_view}
use Rattle.plant_core.proofs.RunLemmas.{step_more}
use Rattle.plant_core.proofs.held.PlantCore.step.Goals as goal

pub returns-clause-reached : goal.returns-clause-reached
returns-clause-reached g c = λ before told reached.
    let done = c.in_ok-step_into.ensures.ok in
    step_more (core_view c.args.self.now).plant before c.args.step told c.new-outs.result.items done.0 c.step_into.new.outs.items _ _ c.always.ensures.plant c.always.ensures.gathering
    done.2 done.1 c.new-outs.ensures.items reached
