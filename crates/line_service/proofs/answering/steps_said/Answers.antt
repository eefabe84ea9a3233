use Rattle.line_service.proofs.LineLemmas.{said_placed}
use Rattle.line_service.proofs.answering.steps_said.Goals as goal

pub returns-in-Ok-clause-placed : goal.returns-in-Ok-clause-placed
returns-in-Ok-clause-placed g c =
    said_placed (g.P.Routing.plant_of c.args.routes.now) c.args.number c.args.line.now c.new-steps.result.items c.put_line.new.steps.items c.new-steps.ensures.items c.in-Ok.ensures.said
