use Rattle.std.proofs.Common.{sym}
use Rattle.line_service.specs.script.Lines.{line_fields}
use Rattle.line_service.proofs.ScriptLemmas.FirstFields.{one_more}
use Rattle.line_service.proofs.script.script.one_error.Goals as goal

pub returns-in-Some : goal.returns-in-Some
returns-in-Some c = sym (one_more (line_fields c.args.line.now) _ _ c.args.error c.in-Some.ensures)
