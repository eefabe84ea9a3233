use Rattle.std.proofs.Common.{◌≡◌, ◌∷◌, [], length, ap, sym, ◌∙◌}
use Rattle.plant_script.proofs.Common.{nil_from_length, into_iter_items, into_iter_len, Vec, Out, core_view, step_fault, if_ok, count_next, fault_is_told}
use Rattle.plant_script.proofs.StepRuns.{none_run, unheard_more, all_done, line_refused}
use Rattle.plant_script.proofs.running.run_unheard.Goals as goal

pub loop-number-init : goal.loop-number-init
loop-number-init g c =
    let gives = c.into_iter-number-iterator.ensures.into_iter_gives in
    record {
      next = tt;
      finite = tt;
      count = gives.1 ∙ c.args.lines.ok.0 ∙ ap length (sym gives.0);
      half = rw gives.0 (none_run c.args.lines.items (core_view c.args.core.now) c.requires);
    }

pub loop-number-preserved : goal.loop-number-preserved
loop-number-preserved g c =
    let at = c.loop-number in
    let line = c.in-Some.field-0 in
    let left : into_iter_items at.number-iterator ≡ line ∷ into_iter_items c.next.new.self = c.in-Some.ensures.steps.0 in
    record {
      next = tt;
      finite = tt;
      count = count_next (into_iter_items at.number-iterator) line (into_iter_items c.next.new.self) (into_iter_len at.number-iterator) (into_iter_len c.next.new.self) left c.in-Some.ensures.steps.1 at.invariant.count;
      half = unheard_more (core_view c.args.core.now).plant c.args.lines.items (core_view at.core) (core_view c.step.new.self) line (into_iter_items c.next.new.self) c.in-Ok._outs.items (rw left at at.invariant.half) c.in-Ok.ensures.reached;
    }

pub returns-in-Err : goal.returns-in-Err
returns-in-Err g c =
    let at = c.loop-number in
    let line = c.in-Some.field-0 in
    let left : into_iter_items at.number-iterator ≡ line ∷ into_iter_items c.next.new.self = c.in-Some.ensures.steps.0 in
    if_ok c.refused_line.result _ _
    (λ refused told. rw told.0 (line_refused (core_view c.args.core.now).plant c.args.lines.items (λ told. []) (core_view at.core) (core_view c.step.new.self) [] line (into_iter_items c.next.new.self) c.in-Err.fault
    (rw left at at.invariant.half) c.in-Err.ensures.err (fault_is_told (Vec Out) c.in-Err.fault (step_fault (core_view at.core) line.step) c.in-Err.ensures.fault told.1)))
    c.refused_line.ensures

pub returns : goal.returns
returns g c =
    let at = c.loop-number in
    let none : into_iter_items at.number-iterator ≡ [] = nil_from_length (into_iter_items at.number-iterator) (sym at.invariant.count ∙ c.in-None.ensures.steps.0) in
    all_done (core_view c.args.core.now).plant c.args.lines.items (λ told. []) (core_view at.core) [] (into_iter_items at.number-iterator) at.invariant.half none
