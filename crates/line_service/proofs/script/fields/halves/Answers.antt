use Rattle.line_service.proofs.ScriptLemmas.Splits.{halves_of}
use Rattle.line_service.proofs.script.fields.halves.Goals as goal

pub returns-in-Some : goal.returns-in-Some
returns-in-Some c = halves_of c.args.line.now _ _ c.in-Some.place c.in-Some.ensures c.part.ensures c.part-in-Some.ensures
