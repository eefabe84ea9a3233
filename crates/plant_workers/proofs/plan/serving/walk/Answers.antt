use Rattle.std.proofs.Common.{◌≡◌, ◌+◌, List, take, refl, sym, subst, arith}
use Rattle.plant_workers.proofs.PlanLemmas.Common.{slice_index, take_all, Step, collects_of, some_at, ticks_of}
use Rattle.plant_workers.proofs.PlanLemmas.Firsts.{first_of, served_more}
use Rattle.plant_workers.proofs.plan.serving.walk.Goals as goal

pub returns-in-Some-clause-first : goal.returns-in-Some-clause-first
returns-in-Some-clause-first c =
    let step = some_at c.args.steps.now c.loop-at.at c.loop-at-test.true in
    first_of c.args.plant.now c.args.steps.now c.in-Some.fault c.loop-at.at step.0 step.1 (sym (c.in-Some.ensures.value step.0 step.1)) c.loop-at.invariant.served

pub loop-at-preserved : goal.loop-at-preserved
loop-at-preserved c =
    let step = some_at c.args.steps.now c.loop-at.at c.loop-at-test.true in
    record {
      waiting = c.in_default.ensures.waiting refl;
      served = served_more c.args.plant.now c.args.steps.now c.loop-at.at step.0 step.1 (sym (c.in_default.ensures.value step.0 step.1)) c.loop-at.invariant.served;
    }

pub returns-clause-ticked : goal.returns-clause-ticked
returns-clause-ticked c i lt =
    let whole : take c.loop-at.at c.args.steps.now ≡ c.args.steps.now = take_all c.loop-at.at c.args.steps.now c.loop-at-test.false in
    let counts =
    subst (λ (ss : List Step). slice_index c.loop-at.waiting i + collects_of i ss ≡ ticks_of i ss) whole (c.loop-at.invariant.waiting.counts i lt) in
    omega (arith, counts)
