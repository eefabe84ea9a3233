use Rattle.std.proofs.Common.{ap}
use Rattle.line_service.proofs.ScriptLemmas.Common.{behind, line_fields}
use Rattle.line_service.proofs.ScriptLemmas.Scripts.{ticked_more}
use Rattle.line_service.proofs.script.script.put_ticked.Goals as goal

pub returns-in-Some-clause-said : goal.returns-in-Some-clause-said
returns-in-Some-clause-said c =
    ap (behind c.args.steps.now.items) (ticked_more c.args.plant.now c.args.number _ _ (line_fields c.args.line.now) c.in-Some.ensures)
