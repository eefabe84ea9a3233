use Rattle.std.proofs.Common.{ℕ, ◌+◌, take, length, Some, None, refl, sym, ap, ◌∙◌, subst, arith}
use Rattle.plant_workers.proofs.PlanLemmas.Common.{slice_get, unwrap_or, Option, List, eq-eqb, ne_eqb, false≢true, none-some, same_Some, slice_get_past, collects_of, resliced_by, some_at, IsCourse, IsOwnTurn, arrive_none}
use Rattle.operator_model.specs.declared.action.SliceRow.{SliceRow}
use Rattle.operator_model.specs.declared.action.Action.TheVariants as actions
use Rattle.run_model.specs.declared.step.Step.TheVariants as steps
use Rattle.run_model.proofs.OwnActions.{work_at, tick_at, arrive_at}
use Rattle.plant_workers.proofs.PlanLemmas.Courses.{course_none, course_collects, course_acts, course_ticks, few_actions, few_collects}
use Rattle.plant_workers.proofs.PlanLemmas.Counts.{stands_at, at_place}
use Rattle.plant_workers.proofs.plan.turns.turn_of.Goals as goal

pub act-requires : goal.act-requires
act-requires c =
    let row = some_at c.args.plant.now.rows c.args.op c.requires.known in
    let few = few_actions row.0 c.args.op c.args.steps.now c.args.at c.requires.within c.args.course.now (c.requires.course row.0 row.1) in
    omega (arith, few, c.requires.room)

pub act-requires-then-other-op : goal.act-requires-then-other-op
act-requires-then-other-op c =
    let row = some_at c.args.plant.now.rows c.args.op c.requires.known in
    let few = few_actions row.0 c.args.op c.args.steps.now c.args.at c.requires.within c.args.course.now (c.requires.course row.0 row.1) in
    omega (arith, few, c.requires.room)

pub tick-requires : goal.tick-requires
tick-requires c =
    let row = some_at c.args.plant.now.rows c.args.op c.requires.known in
    let few = few_actions row.0 c.args.op c.args.steps.now c.args.at c.requires.within c.args.course.now (c.requires.course row.0 row.1) in
    omega (arith, few, c.requires.room)

pub collect-requires : goal.collect-requires
collect-requires c =
    let row = some_at c.args.plant.now.rows c.args.op c.requires.known in
    let few = few_collects row.0 c.args.op c.args.steps.now c.args.at c.requires.within c.args.course.now (c.requires.course row.0 row.1) in
    omega (arith, few, c.requires.room)

pub act-requires-then-op-as_slice : goal.act-requires-then-op-as_slice
act-requires-then-op-as_slice c =
    let row = some_at c.args.plant.now.rows c.args.op c.requires.known in
    let few = few_actions row.0 c.args.op c.args.steps.now c.args.at c.requires.within c.args.course.now (c.requires.course row.0 row.1) in
    omega (arith, few, c.requires.room)

-- ---- what is heard of a modem
pub returns-then-is_of-clause-turn : goal.returns-then-is_of-clause-turn
returns-then-is_of-clause-turn c row step e here =
    at_place c.args.steps.now c.args.at (λ s. IsOwnTurn c.args.plant.now row c.args.op (take c.args.at c.args.steps.now) s (Some c.act.result)) (steps.Arrive c.in-Arrive.modem c.in-Arrive.heard)
    (stands_at c.args.steps.now c.args.at c.index-steps-at.result _ c.requires.within c.index-steps-at.is c.in-Arrive.is)
    (c.if-is_of.ensures.0 refl, c.act.ensures.place ∙ (c.requires.course row e).actions) step here

pub returns-then-is_of-clause-course : goal.returns-then-is_of-clause-course
returns-then-is_of-clause-course c row e =
    let there = stands_at c.args.steps.now c.args.at c.index-steps-at.result _ c.requires.within c.index-steps-at.is c.in-Arrive.is in
    subst (IsCourse row c.args.op (take (c.args.at + 1) c.args.steps.now)) (sym c.act.ensures.course)
    (course_acts row c.args.op c.args.steps.now c.args.at _ there c.args.course.now (c.requires.course row e) (actions.Arrive c.in-Arrive.modem c.in-Arrive.heard)
    ((arrive_at c.args.plant.now c.in-Arrive.modem c.in-Arrive.heard c.args.op c.rows-rows.ensures.valid (c.if-is_of.ensures.0 refl)).here c.args.op row e refl) refl refl)

pub returns-else-is_of-clause-turn : goal.returns-else-is_of-clause-turn
returns-else-is_of-clause-turn c row step e here =
    at_place c.args.steps.now c.args.at (λ s. IsOwnTurn c.args.plant.now row c.args.op (take c.args.at c.args.steps.now) s None) (steps.Arrive c.in-Arrive.modem c.in-Arrive.heard)
    (stands_at c.args.steps.now c.args.at c.index-steps-at.result _ c.requires.within c.index-steps-at.is c.in-Arrive.is)
    (λ held. false≢true (c.if-is_of.ensures.1 held)) step here

pub returns-else-is_of-clause-course : goal.returns-else-is_of-clause-course
returns-else-is_of-clause-course c row e =
    let there = stands_at c.args.steps.now c.args.at c.index-steps-at.result _ c.requires.within c.index-steps-at.is c.in-Arrive.is in
    course_none row c.args.op c.args.steps.now c.args.at _ there c.args.course.now (c.requires.course row e)
    (arrive_none c.args.plant.now c.in-Arrive.modem c.in-Arrive.heard c.args.op row c.rows-rows.ensures.valid e (λ held. false≢true (c.if-is_of.ensures.1 held))) refl

-- ---- work
pub returns-then-other-op-clause-turn : goal.returns-then-other-op-clause-turn
returns-then-other-op-clause-turn c row step e here =
    at_place c.args.steps.now c.args.at (λ s. IsOwnTurn c.args.plant.now row c.args.op (take c.args.at c.args.steps.now) s (Some c.act-then-other-op.result)) (steps.Work c.in-Work.other)
    (stands_at c.args.steps.now c.args.at c.index-steps-at.result _ c.requires.within c.index-steps-at.is c.in-Work.is)
    (ap (λ (n : ℕ). Some n) c.if-other-op.true, c.act-then-other-op.ensures.place ∙ (c.requires.course row e).actions) step here

pub returns-then-other-op-clause-course : goal.returns-then-other-op-clause-course
returns-then-other-op-clause-course c row e =
    let there = stands_at c.args.steps.now c.args.at c.index-steps-at.result _ c.requires.within c.index-steps-at.is c.in-Work.is in
    subst (IsCourse row c.args.op (take (c.args.at + 1) c.args.steps.now)) (sym c.act-then-other-op.ensures.course)
    (course_acts row c.args.op c.args.steps.now c.args.at _ there c.args.course.now (c.requires.course row e) actions.Work
    ((work_at c.args.plant.now c.in-Work.other).here c.args.op row e (sym c.if-other-op.true)) refl refl)

pub returns-else-other-op-clause-turn : goal.returns-else-other-op-clause-turn
returns-else-other-op-clause-turn c row step e here =
    at_place c.args.steps.now c.args.at (λ s. IsOwnTurn c.args.plant.now row c.args.op (take c.args.at c.args.steps.now) s None) (steps.Work c.in-Work.other)
    (stands_at c.args.steps.now c.args.at c.index-steps-at.result _ c.requires.within c.index-steps-at.is c.in-Work.is)
    (λ same. c.if-other-op.false (same_Some c.in-Work.other c.args.op same)) step here

pub returns-else-other-op-clause-course : goal.returns-else-other-op-clause-course
returns-else-other-op-clause-course c row e =
    let there = stands_at c.args.steps.now c.args.at c.index-steps-at.result _ c.requires.within c.index-steps-at.is c.in-Work.is in
    course_none row c.args.op c.args.steps.now c.args.at _ there c.args.course.now (c.requires.course row e)
    ((work_at c.args.plant.now c.in-Work.other).else c.args.op row e (λ same. c.if-other-op.false (sym same))) refl

-- ---- ticks
pub returns-in_ok-tick-in-Tick-clause-turn : goal.returns-in_ok-tick-in-Tick-clause-turn
returns-in_ok-tick-in-Tick-clause-turn c row step e here =
    at_place c.args.steps.now c.args.at (λ s. IsOwnTurn c.args.plant.now row c.args.op (take c.args.at c.args.steps.now) s (Some c.in_ok-tick-in-Tick.field-0)) (steps.Tick c.in-Tick.other)
    (stands_at c.args.steps.now c.args.at c.index-steps-at.result _ c.requires.within c.index-steps-at.is c.in-Tick.is)
    (ap (λ (n : ℕ). Some n) c.if-other-op-2.true, c.in_ok-tick-in-Tick.ensures.place ∙ (c.requires.course row e).actions) step here

pub returns-in_ok-tick-in-Tick-clause-course : goal.returns-in_ok-tick-in-Tick-clause-course
returns-in_ok-tick-in-Tick-clause-course c row e =
    let there = stands_at c.args.steps.now c.args.at c.index-steps-at.result _ c.requires.within c.index-steps-at.is c.in-Tick.is in
    course_ticks row c.args.op c.args.steps.now c.args.at _ there c.args.course.now (c.requires.course row e) actions.Tick
    ((tick_at c.args.plant.now c.in-Tick.other).here c.args.op row e (sym c.if-other-op-2.true)) refl refl c.tick.new.self
    c.in_ok-tick-in-Tick.ensures.actions c.in_ok-tick-in-Tick.ensures.collects c.in_ok-tick-in-Tick.ensures.behind

pub returns-else-other-op-2-clause-turn : goal.returns-else-other-op-2-clause-turn
returns-else-other-op-2-clause-turn c row step e here =
    at_place c.args.steps.now c.args.at (λ s. IsOwnTurn c.args.plant.now row c.args.op (take c.args.at c.args.steps.now) s None) (steps.Tick c.in-Tick.other)
    (stands_at c.args.steps.now c.args.at c.index-steps-at.result _ c.requires.within c.index-steps-at.is c.in-Tick.is)
    (λ same. c.if-other-op-2.false (same_Some c.in-Tick.other c.args.op same)) step here

pub returns-else-other-op-2-clause-course : goal.returns-else-other-op-2-clause-course
returns-else-other-op-2-clause-course c row e =
    let there = stands_at c.args.steps.now c.args.at c.index-steps-at.result _ c.requires.within c.index-steps-at.is c.in-Tick.is in
    course_none row c.args.op c.args.steps.now c.args.at _ there c.args.course.now (c.requires.course row e)
    ((tick_at c.args.plant.now c.in-Tick.other).else c.args.op row e (λ same. c.if-other-op-2.false (sym same))) refl

-- ---- collections
pub returns-then-other-op-3-clause-turn : goal.returns-then-other-op-3-clause-turn
returns-then-other-op-3-clause-turn c row step e here =
    let course = c.requires.course row e in
    at_place c.args.steps.now c.args.at (λ s. IsOwnTurn c.args.plant.now row c.args.op (take c.args.at c.args.steps.now) s (Some c.collect.result)) (steps.Collect c.in-Collect.other)
    (stands_at c.args.steps.now c.args.at c.index-steps-at.result _ c.requires.within c.index-steps-at.is c.in-Collect.is) (
      ap (λ (n : ℕ). Some n) c.if-other-op-3.true,
      λ place tick.
          c.collect.ensures.turn
          ∙ (ap (λ (n : ℕ). unwrap_or (slice_get c.args.course.now.behind.items n) 0) course.collects
          ∙ ap (λ (o : Option ℕ). unwrap_or o 0) (course.ticks (collects_of c.args.op (take c.args.at c.args.steps.now)) place tick)),
    )
    step here

pub returns-then-other-op-3-clause-course : goal.returns-then-other-op-3-clause-course
returns-then-other-op-3-clause-course c row e =
    let there = stands_at c.args.steps.now c.args.at c.index-steps-at.result _ c.requires.within c.index-steps-at.is c.in-Collect.is in
    subst (IsCourse row c.args.op (take (c.args.at + 1) c.args.steps.now)) (sym c.collect.ensures.course)
    (course_collects row c.args.op c.args.steps.now c.args.at _ there c.args.course.now (c.requires.course row e) refl (eq-eqb c.in-Collect.other c.args.op c.if-other-op-3.true))

pub returns-else-other-op-3-clause-turn : goal.returns-else-other-op-3-clause-turn
returns-else-other-op-3-clause-turn c row step e here =
    at_place c.args.steps.now c.args.at (λ s. IsOwnTurn c.args.plant.now row c.args.op (take c.args.at c.args.steps.now) s None) (steps.Collect c.in-Collect.other)
    (stands_at c.args.steps.now c.args.at c.index-steps-at.result _ c.requires.within c.index-steps-at.is c.in-Collect.is)
    (λ same. c.if-other-op-3.false (same_Some c.in-Collect.other c.args.op same)) step here

pub returns-else-other-op-3-clause-course : goal.returns-else-other-op-3-clause-course
returns-else-other-op-3-clause-course c row e =
    let there = stands_at c.args.steps.now c.args.at c.index-steps-at.result _ c.requires.within c.index-steps-at.is c.in-Collect.is in
    course_none row c.args.op c.args.steps.now c.args.at _ there c.args.course.now (c.requires.course row e) refl (ne_eqb c.in-Collect.other c.args.op c.if-other-op-3.false)

-- ---- re-slicings
pub returns-then-op-as_slice-clause-turn : goal.returns-then-op-as_slice-clause-turn
returns-then-op-as_slice-clause-turn c row step e here =
    at_place c.args.steps.now c.args.at (λ s. IsOwnTurn c.args.plant.now row c.args.op (take c.args.at c.args.steps.now) s None) (steps.Reslice c.in-Reslice.from c.in-Reslice.rows)
    (stands_at c.args.steps.now c.args.at c.index-steps-at.result _ c.requires.within c.index-steps-at.is c.in-Reslice.is)
    (λ same. none-some c.args.op same) step here

pub returns-then-op-as_slice-clause-course : goal.returns-then-op-as_slice-clause-course
returns-then-op-as_slice-clause-course c row e =
    let there = stands_at c.args.steps.now c.args.at c.index-steps-at.result _ c.requires.within c.index-steps-at.is c.in-Reslice.is in
    let long = ap (λ (rs : List SliceRow). length rs) c.as_slice.ensures in
    let new = some_at c.in-Reslice.rows c.args.op (omega (arith, c.if-op-as_slice.true, long)) in
    subst (IsCourse row c.args.op (take (c.args.at + 1) c.args.steps.now)) (sym c.act-then-op-as_slice.ensures.course)
    (course_acts row c.args.op c.args.steps.now c.args.at _ there c.args.course.now (c.requires.course row e) (actions.Reslice c.in-Reslice.from new.0)
    (ap (λ (o : Option SliceRow). resliced_by c.in-Reslice.from o) new.1) refl refl)

pub returns-else-op-as_slice-clause-turn : goal.returns-else-op-as_slice-clause-turn
returns-else-op-as_slice-clause-turn c row step e here =
    at_place c.args.steps.now c.args.at (λ s. IsOwnTurn c.args.plant.now row c.args.op (take c.args.at c.args.steps.now) s None) (steps.Reslice c.in-Reslice.from c.in-Reslice.rows)
    (stands_at c.args.steps.now c.args.at c.index-steps-at.result _ c.requires.within c.index-steps-at.is c.in-Reslice.is)
    (λ same. none-some c.args.op same) step here

pub returns-else-op-as_slice-clause-course : goal.returns-else-op-as_slice-clause-course
returns-else-op-as_slice-clause-course c row e =
    let there = stands_at c.args.steps.now c.args.at c.index-steps-at.result _ c.requires.within c.index-steps-at.is c.in-Reslice.is in
    let long = ap (λ (rs : List SliceRow). length rs) c.as_slice.ensures in
    course_none row c.args.op c.args.steps.now c.args.at _ there c.args.course.now (c.requires.course row e)
    (ap (λ (o : Option SliceRow). resliced_by c.in-Reslice.from o) (slice_get_past c.in-Reslice.rows c.args.op (omega (arith, c.if-op-as_slice.false, long)))) refl
