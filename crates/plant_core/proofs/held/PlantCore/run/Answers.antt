use Rattle.plant_core.specs.CoreView.{core_view}
use Rattle.plant_core.proofs.RunLemmas.{run_more, stop_told}
use Rattle.plant_core.proofs.held.PlantCore.run.Goals as goal

pub returns-in-Err-clause-fault : goal.returns-in-Err-clause-fault
returns-in-Err-clause-fault g c = λ step there.
    stop_told c.args.steps.now c.loop-at.at c.index-steps-at.result step c.in-Err.fault _ _ c.loop-at-test.true c.index-steps-at.is there c.in-Err.ensures.err c.in-Err.ensures.fault

pub loop-at-preserved : goal.loop-at-preserved
loop-at-preserved g c = λ before told reached.
    let done = c.in_default.ensures.ok in
    run_more (core_view c.args.self.now).plant before c.args.steps.now c.loop-at.at c.index-steps-at.result told c.loop-at.outs.items done.0 c.step_into.new.outs.items _ _
    c.always.ensures.plant c.always.ensures.gathering c.loop-at-test.true c.index-steps-at.is done.2 done.1 (c.loop-at.invariant before told reached)
