use Rattle.std.proofs.Common.{Err, ap, sym, ◌∙◌}
use Rattle.line_service.proofs.ScriptLemmas.Common.{bytes_eq, behind}
use Rattle.line_service.proofs.ScriptLemmas.Scripts.{alone, alone_ticks}
use Rattle.line_service.proofs.script.script.put_alone.Goals as goal

pub returns-then-eq-clause-said : goal.returns-then-eq-clause-said
returns-then-eq-clause-said c =
    let is = ap (bytes_eq c.args.word.now) (sym c.as_slice.ensures) ∙ sym c.if-eq.ensures in
    rw (alone_ticks c.args.plant.now c.args.number c.args.word.now is, ← c.rows.ensures.value) c.put_all_ticks.ensures.said

pub returns-else-eq-clause-said : goal.returns-else-eq-clause-said
returns-else-eq-clause-said c =
    let other = ap (bytes_eq c.args.word.now) (sym c.as_slice.ensures) ∙ sym c.if-eq.ensures in
    ap (behind c.args.steps.now.items) (alone c.args.plant.now c.args.number c.args.word.now other) ∙ ap Err (sym c.alone_error.ensures)
