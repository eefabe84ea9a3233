use Rattle.line_service.proofs.ScriptLemmas.Marked.{marks_written}
use Rattle.line_service.proofs.script.digits.marked_span.Goals as goal

pub returns-clause-written : goal.returns-clause-written
returns-clause-written c =
    marks_written c.args.span _ _ _ _ _ c.write_marked.ensures.written (rw (← c.number.ensures, ← c.from.ensures) c.write_marked-place-3.ensures.written) c.write_marked-place-2.ensures.written c.write_marked-place.ensures.written
