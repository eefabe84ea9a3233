use Rattle.std.proofs.Common.{◌≡◌, Ok, subst, sym}
use Rattle.plant_core.specs.declared.live.held.LiveCore.{LiveCore}
use Rattle.plant_core.specs.live.After.{IsAfterFrom}
use Rattle.line_service.proofs.Common.{PlantFields, live_view, LineOutcome, steps_said, HasAnswered}
use Rattle.line_service.proofs.StepLemmas.{after_plant}
use Rattle.line_service.proofs.LineLemmas.{steps_answered}
use Rattle.line_service.proofs.answering.do_line.Goals as goal

pub returns-in_ok-end-in-Ok : goal.returns-in_ok-end-in-Ok
returns-in_ok-end-in-Ok g c plant start before shown after =
    let same : c.args.core.now.routes ≡ plant = after_plant plant start before shown _ after in
    let here = subst (λ (core : LiveCore). IsAfterFrom plant start before shown (live_view core)) (sym c.steps_said.ensures.same) after in
    subst (λ (e : LineOutcome). HasAnswered plant start before shown c.args.number c.args.line.now (live_view c.run_steps.new.core) e (g.W.Write.contents c.args.writer.now) (g.W.Write.contents c.run_steps.new.writer))
    (sym c.outcome_of.ensures)
    (steps_answered plant start before shown c.args.number c.args.line.now c.in-Ok.steps.items _ c.in_ok-end-in-Ok.end _ _
    (subst (λ (p : PlantFields). steps_said p c.args.number c.args.line.now ≡ Ok c.in-Ok.steps.items) same c.in-Ok.ensures.said) (c.in_ok-end-in-Ok.ensures plant start before shown here))
