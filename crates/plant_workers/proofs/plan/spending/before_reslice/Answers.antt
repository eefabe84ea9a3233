use Rattle.std.proofs.Common.{ℕ, take, sym, ap, ◌∙◌, arith}
use Rattle.plant_workers.proofs.PlanLemmas.Common.{not, take_all, prefix_len_is, Step, is_reslice}
use Rattle.run_model.specs.declared.step.Step.TheVariants as steps
use Rattle.plant_workers.proofs.plan.spending.before_reslice.Goals as goal

pub returns-then-is_reslice : goal.returns-then-is_reslice
returns-then-is_reslice c =
    let step : Step = c.index-steps-at.result in
    let here = ap (λ (s : Step). not (is_reslice s)) (sym c.index-steps-at.is) ∙ ap not (sym c.is_reslice.ensures ∙ c.if-is_reslice.true) in
    ap (λ (n : ℕ). take n c.args.steps.now)
    (sym (prefix_len_is (λ (s : Step). not (is_reslice s)) c.args.steps.now c.loop-at.at step c.loop-at.auto.at-end (λ k lt. ap not (c.loop-at.invariant k step lt)) (λ _. here)))

pub returns : goal.returns
returns c =
    sym (take_all c.loop-at.at c.args.steps.now c.loop-at-test.false)
    ∙ ap (λ (n : ℕ). take n c.args.steps.now)
    (sym (prefix_len_is (λ (s : Step). not (is_reslice s)) c.args.steps.now c.loop-at.at (steps.Work 0) c.loop-at.auto.at-end (λ k lt. ap not (c.loop-at.invariant k (steps.Work 0) lt))
    (λ lt. absurd (omega (arith, lt, c.loop-at-test.false)))))
