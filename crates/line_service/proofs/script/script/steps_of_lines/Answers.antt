use Rattle.std.proofs.Common.{◌≡◌, ℕ, ◌+◌, List, [], map, drop, get_or, refl, sym, ap, subst, ◌∙◌, arith}
use Rattle.line_service.proofs.ScriptLemmas.Common.{Bor, FieldFault, Invalid, Fails, field_cause, behind, line_steps, steps_after}
use Rattle.line_service.proofs.ScriptLemmas.Splits.{line_at}
use Rattle.line_service.proofs.ScriptLemmas.Scripts.{steps_more, steps_fail}
use Rattle.line_service.proofs.script.script.steps_of_lines.Goals as goal

pub returns-in-Err-Invalid-clause-value : goal.returns-in-Err-Invalid-clause-value
returns-in-Err-Invalid-clause-value c =
    let none : Bor (List ℕ) = record { ref_ptr = (0, 0); now = [] } in
    let place = c.loop-line.line-index in
    let plant = c.args.routes.now in
    let number = c.loop-line.number in
    let steps = c.loop-line.steps.items in
    let line = (get_or c.args.lines.now place none).now in
    let lines = map (λ (l : Bor (List ℕ)). l.now) c.args.lines.now in
    let here = line_at c.args.lines.now place none c.loop-line-test.true in
    let said = line_steps plant number line in
    let fails : Fails (field_cause (Invalid _)) (behind steps said) = subst (λ (f : FieldFault). Fails (field_cause f) (behind steps said)) c.in-Err-Invalid.field-0-is
    (rw (← c.loop-line.invariant.same) c.in-Err-Invalid.ensures.said) in
    sym c.loop-line.invariant.so_far.goes_on
    ∙ ap (steps_after plant number steps) here
    ∙ steps_fail plant number steps line (drop (place + 1) lines) _ said refl fails

pub loop-line-preserved : goal.loop-line-preserved
loop-line-preserved c =
    let none : Bor (List ℕ) = record { ref_ptr = (0, 0); now = [] } in
    let place = c.loop-line.line-index in
    let plant = c.args.routes.now in
    let number = c.loop-line.number in
    let steps = c.loop-line.steps.items in
    let line = (get_or c.args.lines.now place none).now in
    let lines = map (λ (l : Bor (List ℕ)). l.now) c.args.lines.now in
    let here = line_at c.args.lines.now place none c.loop-line-test.true in
    record {
      same = c.put_line.ensures.same ∙ c.loop-line.invariant.same;
      so_far = record {
        number_is = let n : number ≡ place + 1 = c.loop-line.invariant.so_far.number_is in omega arith;
        goes_on =
            sym (steps_more plant number steps c.put_line.new.steps.items line (drop (place + 1) lines) (line_steps plant number line) refl
            (rw (← c.loop-line.invariant.same) c.in-Ok.ensures.said))
            ∙ ap (steps_after plant number steps) (sym here)
            ∙ c.loop-line.invariant.so_far.goes_on;
      };
    }
