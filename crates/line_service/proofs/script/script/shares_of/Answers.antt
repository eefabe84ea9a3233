use Rattle.std.proofs.Common.{ℕ, ◌+◌, List, [], map, drop, get_or, sym, ap, ◌∙◌}
use Rattle.line_service.proofs.ScriptLemmas.Common.{Bor, SliceRow, shares_after}
use Rattle.line_service.proofs.ScriptLemmas.Splits.{line_at}
use Rattle.line_service.proofs.ScriptLemmas.Scripts.{shares_more, shares_stop}
use Rattle.line_service.proofs.script.script.shares_of.Goals as goal

pub returns-in-Err : goal.returns-in-Err
returns-in-Err c =
    let none : Bor (List ℕ) = record { ref_ptr = (0, 0); now = [] } in
    let place = c.loop-field.field-index in
    let fields = map (λ (f : Bor (List ℕ)). f.now) c.args.fields.now in
    let here = line_at c.args.fields.now place none c.loop-field-test.true in
    shares_stop c.in-Err.fault c.loop-field.rows.items (get_or c.args.fields.now place none).now (drop (place + 1) fields) fields
    (ap (shares_after c.loop-field.rows.items) (sym here) ∙ c.loop-field.invariant)
    (rw c.as_slice.ensures.value at c.in-Err.ensures)

pub loop-field-preserved : goal.loop-field-preserved
loop-field-preserved c =
    let none : Bor (List ℕ) = record { ref_ptr = (0, 0); now = [] } in
    let place = c.loop-field.field-index in
    let fields = map (λ (f : Bor (List ℕ)). f.now) c.args.fields.now in
    let here = line_at c.args.fields.now place none c.loop-field-test.true in
    ap (λ (x : List SliceRow). shares_after x (drop (place + 1) fields)) c.in_ok-push-in-Ok.ensures.items
    ∙ sym (shares_more c.loop-field.rows.items (get_or c.args.fields.now place none).now (drop (place + 1) fields) c.in-Ok.row (rw c.as_slice.ensures.value at c.in-Ok.ensures))
    ∙ ap (shares_after c.loop-field.rows.items) (sym here)
    ∙ c.loop-field.invariant
