use Rattle.std.proofs.Common.{◌≡◌, None, [], ◌∷◌, length, map, ap, refl, sym, subst, ◌∙◌, arith}
use Rattle.plant_core.specs.live.Following.{FollowRows}
use Rattle.run_model.specs.Placed.{IsPlaced}
use Rattle.line_service.proofs.Common.{PlantFields, nat_tests, into_iter_items, nil_from_length, step_fault, live_view}
use Rattle.plant_core.specs.declared.live.core_fault.CoreFault.TheVariants as faults
use Rattle.line_service.specs.declared.steps_end.StepsEnd.TheVariants as ends
use Rattle.line_service.proofs.LeftLemmas.{count_next}
use Rattle.line_service.proofs.StepLemmas.{next_is_placed, none_done, none_written, half_more, all_are_done, step_not_done, on_err_of}
use Rattle.line_service.proofs.answering.run_steps_in.Goals as goal

pub loop-number-init : goal.loop-number-init
loop-number-init g c =
    let gives = c.into_iter-number-iterator.ensures.into_iter_gives in
    record {
      next = tt;
      finite = tt;
      count = gives.1 ∙ c.args.steps.ok.0 ∙ ap length (sym gives.0);
      half = λ plant start before shown after. rw gives.0 (none_done plant start before shown c.args.steps.items (live_view c.args.core.now) (g.W.Write.contents c.args.writer.now) after);
    }

-- the core has the plant that it had at first
pub step_over_by-requires : goal.step_over_by-requires
step_over_by-requires g c =
    let first = live_view c.args.core.now in
    let run = c.requires.reached in
    let line = c.in-Some.field-0 in
    let half = c.loop-number.invariant.half first.plant run.0 run.1 run.2 run.3 in
    let left : into_iter_items c.loop-number.number-iterator ≡ line ∷ into_iter_items c.next.new.self = c.in-Some.ensures.steps.0 in
    record {
      policies = subst (λ (p : PlantFields). FollowRows (map g.R.Ranks.policy c.args.rankings.now) p.rows) (sym half.after.plant_is) c.requires.policies;
      placed = subst (λ (p : PlantFields). IsPlaced p line.step line.place) (sym half.after.plant_is)
          (next_is_placed first.plant c.args.steps.items half.at line (into_iter_items c.next.new.self) c.requires.placed (half.left_are ∙ left));
    }

-- an allocation failed for the note of a step
pub returns-in_default : goal.returns-in_default
returns-in_default g c plant start before shown after =
    let at = c.loop-number in
    let line = c.in-Some.field-0 in
    let left : into_iter_items at.number-iterator ≡ line ∷ into_iter_items c.next.new.self = c.in-Some.ensures.steps.0 in
    let none : step_fault (live_view at.core) line.step ≡ None = on_err_of c.note_step.result _ c.in_default.not-Ok c.note_step.ensures.memory in
    step_not_done plant start before shown c.args.steps.items (live_view at.core) (live_view at.core) (g.W.Write.contents c.args.writer.now) (g.W.Write.contents c.note_step.new.writer) line (into_iter_items c.next.new.self) (Unit {0}) faults.NoMemory ends.NoMemory
    (rw c.note_step.ensures.kept (rw left at (at.invariant.half plant start before shown after))) refl none refl

pub loop-number-preserved-then-is_empty : goal.loop-number-preserved-then-is_empty
loop-number-preserved-then-is_empty g c =
    let at = c.loop-number in
    let line = c.in-Some.field-0 in
    let left : into_iter_items at.number-iterator ≡ line ∷ into_iter_items c.next.new.self = c.in-Some.ensures.steps.0 in
    let none : length c.step_over_by.new.outs.items ≡ 0 = grind (arith, nat_tests, c.if-is_empty.ensures, c.step_over_by.new.outs.ok.0) in
    record {
      next = tt;
      finite = tt;
      count = count_next _ line _ _ _ left c.in-Some.ensures.steps.1 at.invariant.count;
      half = λ plant start before shown after.
          half_more plant start before shown _ _ _ _ _ _ line _ _ (rw c.note_step.ensures.kept (rw left at (at.invariant.half plant start before shown after))) (c.in-Ok-step_over_by.ensures.reached start)
          (none_written (live_view c.step_over_by.new.self).plant (g.W.Write.contents c.note_step.new.writer) c.step_over_by.new.outs.items (nil_from_length c.step_over_by.new.outs.items none));
    }

pub loop-number-preserved : goal.loop-number-preserved
loop-number-preserved g c =
    let at = c.loop-number in
    let line = c.in-Some.field-0 in
    let left : into_iter_items at.number-iterator ≡ line ∷ into_iter_items c.next.new.self = c.in-Some.ensures.steps.0 in
    record {
      next = tt;
      finite = tt;
      count = count_next _ line _ _ _ left c.in-Some.ensures.steps.1 at.invariant.count;
      half = λ plant start before shown after.
          half_more plant start before shown _ _ (live_view c.step_over_by.new.self) _ (g.W.Write.contents c.note_step.new.writer) (g.W.Write.contents c.write_outs.new.writer) line _ c.step_over_by.new.outs.items
          (rw c.note_step.ensures.kept (rw left at (at.invariant.half plant start before shown after))) (c.in-Ok-2.ensures.reached start)
          (rw (← c.plant.ensures, ← c.as_slice.ensures.value) c.in_ok-write_outs-in-Ok-2.ensures);
    }

pub returns-in-Err : goal.returns-in-Err
returns-in-Err g c plant start before shown after =
    let at = c.loop-number in
    let line = c.in-Some.field-0 in
    let left : into_iter_items at.number-iterator ≡ line ∷ into_iter_items c.next.new.self = c.in-Some.ensures.steps.0 in
    step_not_done plant start before shown c.args.steps.items (live_view at.core) (live_view c.step_over_by.new.self) (g.W.Write.contents c.args.writer.now) (g.W.Write.contents c.note_step.new.writer) line (into_iter_items c.next.new.self) (Unit {0}) c.in-Err.fault _
    (rw c.note_step.ensures.kept (rw left at (at.invariant.half plant start before shown after))) c.in-Err.ensures.err c.in-Err.ensures.fault c.end_of.ensures

pub returns : goal.returns
returns g c plant start before shown after =
    let at = c.loop-number in
    let none : into_iter_items at.number-iterator ≡ [] = nil_from_length _ (sym at.invariant.count ∙ c.in-None.ensures.steps.0) in
    all_are_done plant start before shown _ _ _ _ _ (at.invariant.half plant start before shown after) none
