use Rattle.std.proofs.Common.{◌≡◌, max, Bool, true, false, ℕ, None, [], ◌∷◌, length, ap, sym, subst, ◌∙◌}
use Rattle.trace_report.proofs.Common.{into_iter_items, into_iter_len, nil_from_length, core_view, count_next, IsRestAfter, HasToldStep, on_err_of}
use Rattle.trace_report.proofs.LineLemmas.{all_left}
use Rattle.trace_report.proofs.TracedSoFar.{IsTracedSoFar}
use Rattle.trace_report.proofs.TraceLemmas.{none_traced, line_traced, step_traced, words_fail, all_traced, memory_wants, step_not_done}
use Rattle.trace_report.proofs.trace.write_trace.Goals as goal

pub loop-number-init : goal.loop-number-init
loop-number-init g c =
    let gives = c.into_iter-number-iterator.ensures.into_iter_gives in
    record {
      next = tt;
      finite = tt;
      count = gives.1 ∙ c.args.steps.ok.0 ∙ ap length (sym gives.0);
      rest = all_left c.args.script.now;
      traced = rw gives.0 (none_traced (core_view c.args.core.now).plant c.args.script.now c.args.steps.items (core_view c.args.core.now) (g.W.Write.contents c.args.writer.now) c.requires.opened);
    }

pub loop-number-preserved : goal.loop-number-preserved
loop-number-preserved g c =
    let at = c.loop-number in
    let line = c.in-Some.field-0 in
    let left : into_iter_items at.number-iterator ≡ line ∷ into_iter_items c.next.new.self = c.in-Some.ensures.steps.0 in
    let last_is : max at.last line.number ≡ c.max-last.result = sym c.max-last.ensures in
    record {
      next = tt;
      finite = tt;
      count = count_next (into_iter_items at.number-iterator) line (into_iter_items c.next.new.self) (into_iter_len at.number-iterator) (into_iter_len c.next.new.self) left c.in-Some.ensures.steps.1 at.invariant.count;
      rest = subst (λ (n : ℕ). IsRestAfter c.args.script.now n c.in_ok-rest.rest.now) last_is (c.in_ok-rest.ensures.rest c.args.script.now at.invariant.rest);
      traced =
          subst (λ (n : ℕ). IsTracedSoFar (core_view c.args.core.now).plant c.args.script.now c.args.steps.items n None (core_view c.step_over.new.self) (g.W.Write.contents c.args.writer.now) (g.W.Write.contents c.write_done.new.writer) (into_iter_items c.next.new.self)) last_is
          (step_traced (core_view c.args.core.now).plant c.args.script.now c.args.steps.items at.last (core_view at.core) (core_view c.step_over.new.self) (g.W.Write.contents c.args.writer.now) (g.W.Write.contents c.write_line.new.writer) (g.W.Write.contents c.write_done.new.writer) line (into_iter_items c.next.new.self) c.step_over.new.outs.items c.in-Ok.seen.decision
          (line_traced (core_view c.args.core.now).plant c.args.script.now c.args.steps.items at.last line (core_view at.core) (g.W.Write.contents c.args.writer.now) (g.W.Write.contents at.writer) (g.W.Write.contents c.write_line.new.writer) (line ∷ into_iter_items c.next.new.self) (rw left at at.invariant.traced) (c.in_ok-rest.ensures.quoted c.args.script.now at.invariant.rest))
          c.in-Ok.ensures.decision c.in-Ok-step_over.ensures.reached
          (subst (λ (has_words : Bool). HasToldStep c.in-Ok.seen.decision has_words (g.W.Write.contents c.write_line.new.writer) (g.W.Write.contents c.write_done.new.writer)) c.if-not-branch.false c.in_ok-write_done-in-Ok-step_over.ensures));
    }

-- an allocation failed for what is seen of a step
pub returns-in_default : goal.returns-in_default
returns-in_default g c =
    let at = c.loop-number in
    let line = c.in-Some.field-0 in
    let left : into_iter_items at.number-iterator ≡ line ∷ into_iter_items c.next.new.self = c.in-Some.ensures.steps.0 in
    memory_wants (core_view c.args.core.now).plant c.args.script.now c.args.steps.items at.last (core_view at.core) (g.W.Write.contents c.args.writer.now) (g.W.Write.contents c.write_line.new.writer) line (into_iter_items c.next.new.self)
    (line_traced (core_view c.args.core.now).plant c.args.script.now c.args.steps.items at.last line (core_view at.core) (g.W.Write.contents c.args.writer.now) (g.W.Write.contents at.writer) (g.W.Write.contents c.write_line.new.writer) (line ∷ into_iter_items c.next.new.self) (rw left at at.invariant.traced) (c.in_ok-rest.ensures.quoted c.args.script.now at.invariant.rest))
    (on_err_of c.decision_of.result _ c.in_default.not-Ok c.decision_of.ensures.memory)

-- or for the words of a step that is done
pub returns-then-not-branch : goal.returns-then-not-branch
returns-then-not-branch g c =
    let at = c.loop-number in
    let line = c.in-Some.field-0 in
    let left : into_iter_items at.number-iterator ≡ line ∷ into_iter_items c.next.new.self = c.in-Some.ensures.steps.0 in
    words_fail (core_view c.args.core.now).plant c.args.script.now c.args.steps.items at.last (core_view at.core) (core_view c.step_over.new.self) (g.W.Write.contents c.args.writer.now) (g.W.Write.contents c.write_line.new.writer) (g.W.Write.contents c.write_done.new.writer) line (into_iter_items c.next.new.self) c.step_over.new.outs.items c.in-Ok.seen.decision
    (line_traced (core_view c.args.core.now).plant c.args.script.now c.args.steps.items at.last line (core_view at.core) (g.W.Write.contents c.args.writer.now) (g.W.Write.contents at.writer) (g.W.Write.contents c.write_line.new.writer) (line ∷ into_iter_items c.next.new.self) (rw left at at.invariant.traced) (c.in_ok-rest.ensures.quoted c.args.script.now at.invariant.rest))
    c.in-Ok.ensures.decision c.in-Ok-step_over.ensures.reached
    (subst (λ (has_words : Bool). HasToldStep c.in-Ok.seen.decision has_words (g.W.Write.contents c.write_line.new.writer) (g.W.Write.contents c.write_done.new.writer)) c.if-not-branch.true c.in_ok-write_done-in-Ok-step_over.ensures)

-- a step is not done
pub returns-in-Err : goal.returns-in-Err
returns-in-Err g c =
    let at = c.loop-number in
    let line = c.in-Some.field-0 in
    let left : into_iter_items at.number-iterator ≡ line ∷ into_iter_items c.next.new.self = c.in-Some.ensures.steps.0 in
    step_not_done (core_view c.args.core.now).plant c.args.script.now c.args.steps.items at.last (core_view at.core) (core_view c.step_over.new.self) (g.W.Write.contents c.args.writer.now) (g.W.Write.contents c.write_line.new.writer) line (into_iter_items c.next.new.self) (Unit {0}) c.in-Err.fault c.end_of.result
    (line_traced (core_view c.args.core.now).plant c.args.script.now c.args.steps.items at.last line (core_view at.core) (g.W.Write.contents c.args.writer.now) (g.W.Write.contents at.writer) (g.W.Write.contents c.write_line.new.writer) (line ∷ into_iter_items c.next.new.self) (rw left at at.invariant.traced) (c.in_ok-rest.ensures.quoted c.args.script.now at.invariant.rest))
    c.in-Err.ensures.err c.in-Err.ensures.fault c.end_of.ensures

pub returns : goal.returns
returns g c =
    let at = c.loop-number in
    let none : into_iter_items at.number-iterator ≡ [] = nil_from_length (into_iter_items at.number-iterator) (sym at.invariant.count ∙ c.in-None.ensures.steps.0) in
    all_traced (core_view c.args.core.now).plant c.args.script.now c.args.steps.items at.last (core_view at.core) (g.W.Write.contents c.args.writer.now) (g.W.Write.contents at.writer) (into_iter_items at.number-iterator) at.invariant.traced none
