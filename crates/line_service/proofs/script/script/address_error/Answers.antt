use Rattle.std.proofs.Common.{sym}
use Rattle.line_service.specs.script.Lines.{line_fields}
use Rattle.line_service.proofs.ScriptLemmas.FirstFields.{address_more}
use Rattle.line_service.proofs.script.script.address_error.Goals as goal

pub returns-in-Some : goal.returns-in-Some
returns-in-Some c = sym (address_more (line_fields c.args.line.now) _ _ c.in-Some.ensures)
