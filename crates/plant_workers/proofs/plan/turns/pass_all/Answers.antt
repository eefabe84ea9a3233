use Rattle.std.proofs.Common.{arith}
use Rattle.plant_workers.proofs.PlanLemmas.Turned.{one_passed, all_passed}
use Rattle.plant_workers.proofs.plan.turns.pass_all.Goals as goal

pub loop-op-preserved : goal.loop-op-preserved
loop-op-preserved c =
    one_passed c.args.plant.now c.args.steps.now c.args.at c.loop-op.op c.loop-op.courses
    (omega (arith, c.loop-op-test.true, c.loop-op.invariant.one_each, c.requires.courses.one_each)) c.turn_of.new.course c.loop-op.invariant
    (λ row here. c.in_ok-turn_of.ensures.course row here)

pub returns : goal.returns
returns c =
    all_passed c.args.plant.now c.args.steps.now c.args.at c.loop-op.op c.loop-op.courses
    (omega (arith, c.loop-op-test.false, c.loop-op.invariant.one_each, c.requires.courses.one_each)) c.loop-op.invariant
