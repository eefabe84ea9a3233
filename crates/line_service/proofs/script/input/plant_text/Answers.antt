use Rattle.line_service.proofs.ScriptLemmas.Bars.{utf8_before}
use Rattle.line_service.proofs.script.input.plant_text.Goals as goal

pub unreachable-requires : goal.unreachable-requires
unreachable-requires c = c.in-Err.ensures.cases.0 (utf8_before c.args.input.now c.args.place c.requires.utf8 c.requires.place c.requires.inside)
