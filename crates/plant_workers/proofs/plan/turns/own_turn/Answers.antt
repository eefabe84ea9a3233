use Rattle.std.proofs.Common.{length, take, refl, subst, arith}
use Rattle.plant_workers.proofs.PlanLemmas.Common.{slice_get_read, some_at, IsCourse, IsOwnTurn}
use Rattle.plant_workers.proofs.PlanLemmas.Turned.{stranger_passed, own_passed, own_is_turn}
use Rattle.plant_workers.proofs.plan.turns.own_turn.Goals as goal

pub returns-then-op-courses-clause-courses : goal.returns-then-op-courses-clause-courses
returns-then-op-courses-clause-courses c =
    let step = some_at c.args.steps.now c.args.at c.requires.within in
    stranger_passed c.args.plant.now c.args.steps.now c.args.at step.0 step.1 c.rows-rows.ensures.valid c.args.op (c.requires.own step.0 step.1) c.args.courses.now
    (omega (arith, c.if-op-courses.true)) c.requires.courses

pub turn_of-requires-clause-course : goal.turn_of-requires-clause-course
turn_of-requires-clause-course c row here =
    subst (IsCourse row c.args.op (take c.args.at c.args.steps.now)) c.index-courses-op.is
    (c.requires.courses.each c.args.op row c.index-courses-op.result here
    (slice_get_read c.args.courses.now (length c.args.courses.now) c.args.op c.index-courses-op.result refl (omega (arith, c.if-op-courses.false)) c.index-courses-op.is))

pub returns-in-Some-clause-turn : goal.returns-in-Some-clause-turn
returns-in-Some-clause-turn c step here =
    own_is_turn c.args.plant.now (take c.args.at c.args.steps.now) step c.args.op (c.requires.own step here) c.in-Some.turn
    (λ row there. subst (IsOwnTurn c.args.plant.now row c.args.op (take c.args.at c.args.steps.now) step) c.in-Some.is (c.in_ok-turn.ensures.turn row step there here))

pub returns-in-Some-clause-courses : goal.returns-in-Some-clause-courses
returns-in-Some-clause-courses c =
    let step = some_at c.args.steps.now c.args.at c.requires.within in
    own_passed c.args.plant.now c.args.steps.now c.args.at c.args.op c.args.courses.now (omega (arith, c.if-op-courses.false)) c.turn_of.new.course
    c.rows-rows.ensures.valid step.0 step.1 (c.requires.own step.0 step.1) c.requires.courses (λ row here. c.in_ok-turn.ensures.course row here)

pub returns-in-None-clause-courses : goal.returns-in-None-clause-courses
returns-in-None-clause-courses c =
    let step = some_at c.args.steps.now c.args.at c.requires.within in
    own_passed c.args.plant.now c.args.steps.now c.args.at c.args.op c.args.courses.now (omega (arith, c.if-op-courses.false)) c.turn_of.new.course
    c.rows-rows.ensures.valid step.0 step.1 (c.requires.own step.0 step.1) c.requires.courses (λ row here. c.in_ok-turn.ensures.course row here)
