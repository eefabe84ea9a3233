use Rattle.std.proofs.Common.{◌≡◌, ◌<◌, length, take, None, refl, sym, ◌∙◌, arith}
use Rattle.run_model.specs.declared.step.Step.TheVariants as steps
use Rattle.plant_workers.specs.plan.Serving.{unserved_by, all_collected}
use Rattle.plant_workers.proofs.PlanLemmas.Counts.{stands_at, at_place}
use Rattle.plant_workers.proofs.PlanLemmas.Waiting.{ticked, collected, some_left, there}
use Rattle.plant_workers.proofs.plan.serving.serving_fault.Goals as goal

pub returns-else-op-waiting-2-clause-waiting : goal.returns-else-op-waiting-2-clause-waiting
returns-else-op-waiting-2-clause-waiting c none =
    ticked (length c.args.plant.now.rows) c.args.steps.now c.args.at c.args.waiting.now c.requires.waiting c.in-Tick.op (omega (arith, c.if-op-waiting-2.false, c.requires.waiting.one_each))
    (stands_at c.args.steps.now c.args.at c.index-steps-at.result _ c.requires.within c.index-steps-at.is c.in-Tick.is)

pub returns-else-waiting-op-eq0-clause-value : goal.returns-else-waiting-op-eq0-clause-value
returns-else-waiting-op-eq0-clause-value c step here =
    let lt : c.in-Collect.op < length c.args.plant.now.rows = omega (arith, c.if-op-waiting-3.false, c.requires.waiting.one_each) in
    at_place c.args.steps.now c.args.at (λ s. None ≡ unserved_by c.args.plant.now (take c.args.at c.args.steps.now) s) (steps.Collect c.in-Collect.op)
    (stands_at c.args.steps.now c.args.at c.index-steps-at.result _ c.requires.within c.index-steps-at.is c.in-Collect.is)
    (sym (there c.args.plant.now c.in-Collect.op (all_collected (take c.args.at c.args.steps.now) c.in-Collect.op) lt
    ∙ some_left (length c.args.plant.now.rows) c.args.steps.now c.args.at c.args.waiting.now c.requires.waiting c.in-Collect.op lt (omega (arith, c.if-waiting-op-eq0.false))))
    step here

pub returns-else-waiting-op-eq0-clause-waiting : goal.returns-else-waiting-op-eq0-clause-waiting
returns-else-waiting-op-eq0-clause-waiting c none =
    collected (length c.args.plant.now.rows) c.args.steps.now c.args.at c.args.waiting.now c.requires.waiting c.in-Collect.op (omega (arith, c.if-op-waiting-3.false, c.requires.waiting.one_each))
    (stands_at c.args.steps.now c.args.at c.index-steps-at.result _ c.requires.within c.index-steps-at.is c.in-Collect.is) (omega (arith, c.if-waiting-op-eq0.false))

pub returns-in-Reslice-clause-value : goal.returns-in-Reslice-clause-value
returns-in-Reslice-clause-value c step here =
    at_place c.args.steps.now c.args.at (λ s. None ≡ unserved_by c.args.plant.now (take c.args.at c.args.steps.now) s) (steps.Reslice c.in-Reslice.from c.in-Reslice.rows)
    (stands_at c.args.steps.now c.args.at c.index-steps-at.result _ c.requires.within c.index-steps-at.is c.in-Reslice.is) refl step here
