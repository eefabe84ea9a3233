use Rattle.std.proofs.Common.{◌≡◌, ℕ, ◌+◌, Some, refl, sym, ap, ◌∙◌, arith}
use Rattle.plant_workers.proofs.PlanLemmas.Common.{slice_get, is_tick_of}
use Rattle.plant_workers.proofs.PlanLemmas.Counts.{one_more, no_more, stands_at}
use Rattle.plant_workers.proofs.PlanLemmas.Spent.{not_yet, other_step, spent_here, spent_nowhere, too_few}
use Rattle.plant_workers.proofs.plan.spending.spent_of.Goals as goal
use Rattle.plant_workers.proofs.plan.spending.spent_of.Goals.{then-is_tick_of+else-ticks-allowed, else-is_tick_of}

pub loop-at-preserved : goal.loop-at-preserved
loop-at-preserved c =
    let here : slice_get c.args.steps.now c.loop-at.at ≡ Some c.index-steps-at.result = stands_at c.args.steps.now c.loop-at.at c.index-steps-at.result _ c.loop-at-test.true c.index-steps-at.is refl in
    elim c.if-is_tick_of.branch [
      | then-is_tick_of+else-ticks-allowed w ↦
          let next : c.if-is_tick_of.ticks ≡ c.loop-at.ticks + 1 = w.ticks-is in
          record {
            counted =
                next
                ∙ (ap (λ (n : ℕ). n + 1) c.loop-at.invariant.counted
                ∙ sym (one_more (is_tick_of c.args.op) c.args.steps.now c.loop-at.at c.index-steps-at.result here (sym c.is_tick_of.ensures ∙ w.if-is_tick_of.true)));
            allowed = omega (arith, next, c.loop-at.invariant.allowed, w.if-ticks-allowed.false);
            before = not_yet c.args.first_frame c.args.op c.args.steps.now c.loop-at.at c.loop-at.invariant.before (omega (arith, c.loop-at.invariant.counted, c.loop-at.invariant.allowed, w.if-ticks-allowed.false));
          }
      | else-is_tick_of w ↦
          let same : c.if-is_tick_of.ticks ≡ c.loop-at.ticks = w.ticks-is in
          record {
            counted =
                same
                ∙ (c.loop-at.invariant.counted
                ∙ sym (no_more (is_tick_of c.args.op) c.args.steps.now c.loop-at.at c.index-steps-at.result here (sym c.is_tick_of.ensures ∙ w.if-is_tick_of.false)));
            allowed = omega (arith, same, c.loop-at.invariant.allowed);
            before = other_step c.args.first_frame c.args.op c.args.steps.now c.loop-at.at c.loop-at.invariant.before c.index-steps-at.result here (sym c.is_tick_of.ensures ∙ w.if-is_tick_of.false);
          }
    ]

pub returns : goal.returns
returns c = spent_nowhere c.args.first_frame c.args.op c.args.steps.now c.loop-at.at c.loop-at.invariant.before c.loop-at-test.false

pub returns-then-steps-allowed : goal.returns-then-steps-allowed
returns-then-steps-allowed c = too_few c.args.first_frame c.args.op c.args.steps.now (omega (arith, c.if-steps-allowed.true, c.ranges.first_frame.fits))

pub returns-then-ticks-allowed : goal.returns-then-ticks-allowed
returns-then-ticks-allowed c =
    let here : slice_get c.args.steps.now c.loop-at.at ≡ Some c.index-steps-at.result = stands_at c.args.steps.now c.loop-at.at c.index-steps-at.result _ c.loop-at-test.true c.index-steps-at.is refl in
    spent_here c.args.first_frame c.args.op c.args.steps.now c.loop-at.at c.loop-at.invariant.before c.index-steps-at.result here (sym c.is_tick_of.ensures ∙ c.if-is_tick_of.true)
    (omega (arith, c.loop-at.invariant.counted, c.loop-at.invariant.allowed, c.if-ticks-allowed.true, c.ranges.first_frame.fits))
