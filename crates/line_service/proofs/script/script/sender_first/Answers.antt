use Rattle.std.proofs.Common.{sym, arith, ◌∙◌}
use Rattle.line_service.proofs.ScriptLemmas.FirstFields.{address_known, address_unknown}
use Rattle.line_service.proofs.script.script.sender_first.Goals as goal

pub returns-in-Ok-clause-value : goal.returns-in-Ok-clause-value
returns-in-Ok-clause-value g c =
    sym (address_known (g.P.Routing.plant_of c.args.routes.now) c.args.line.now c.part.result.now c.part-in-Ok.result.now (omega arith) (omega arith) c.part.ensures c.part-in-Ok.ensures c.in-Ok.sender (sym c.sender_in.ensures.value ∙ c.in-Ok.is))

pub returns-in-Err-clause-value : goal.returns-in-Err-clause-value
returns-in-Err-clause-value g c =
    sym (address_unknown (g.P.Routing.plant_of c.args.routes.now) c.args.line.now c.part.result.now c.part.result.now (omega arith) (omega arith) c.part.ensures _ (sym c.sender_in.ensures.value ∙ c.in-Err.is))
