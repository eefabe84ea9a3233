use Rattle.std.proofs.Common.{◌≡◌, ℕ, ◌+◌, refl, sym, subst, arith}
use Rattle.plant_workers.specs.plan.Courses.{AreNewCourses}
use Rattle.plant_workers.proofs.PlanLemmas.Turned.{no_courses, new_more}
use Rattle.plant_workers.proofs.plan.turns.new_courses.Goals as goal

pub loop-op-init : goal.loop-op-init
loop-op-init c = subst (AreNewCourses 0) (sym c.in_ok-courses.ensures.items) no_courses

pub loop-op-preserved : goal.loop-op-preserved
loop-op-preserved c =
    subst (AreNewCourses (c.loop-op.op + 1)) (sym c.in_ok-push.ensures.items)
    (new_more c.loop-op.op c.loop-op.courses.items _ c.loop-op.invariant (record { actions = refl; collects = refl; behind = c.new.ensures.items }))

pub returns : goal.returns
returns c =
    let same : c.loop-op.op ≡ c.args.operators = omega (arith, c.loop-op-test.false, c.loop-op.auto.op-end) in
    subst (λ (n : ℕ). AreNewCourses n c.loop-op.courses.items) same c.loop-op.invariant
