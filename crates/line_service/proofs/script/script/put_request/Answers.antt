use Rattle.std.proofs.Common.{Err, ap, sym, ◌∙◌}
use Rattle.line_service.specs.script.Fields.{behind}
use Rattle.line_service.proofs.ScriptLemmas.FirstFields.{request_unread}
use Rattle.line_service.proofs.script.script.put_request.Goals as goal

pub returns-in-Err-request_in-clause-said : goal.returns-in-Err-request_in-clause-said
returns-in-Err-request_in-clause-said g c =
    let unread = request_unread (g.P.Routing.plant_of c.args.routes.now) c.args.number c.args.line.now _ _ (sym c.in-Ok.ensures.value) _ _ c.in-Some.ensures c.in-Err-request_in.error (sym c.in-Err-request_in.ensures) in
    ap (behind c.args.steps.now.items) unread ∙ ap Err (sym c.one_error.ensures)
