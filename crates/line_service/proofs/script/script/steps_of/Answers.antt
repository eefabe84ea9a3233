use Rattle.line_service.proofs.ScriptLemmas.Placed.{placed_if}
use Rattle.line_service.proofs.script.script.steps_of.Goals as goal

pub returns-clause-placed : goal.returns-clause-placed
returns-clause-placed c = placed_if c.args.routes.now _ _ c.steps_of_lines.ensures.value
