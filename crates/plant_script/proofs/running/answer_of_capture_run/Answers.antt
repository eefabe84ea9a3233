use Rattle.std.proofs.Common.{subst}
use Rattle.plant_script.proofs.Common.{PlantFields, IsCapturedRunOf, status_code}
use Rattle.plant_script.proofs.running.answer_of_capture_run.Goals as goal

pub returns : goal.returns
returns g c =
    let answer = c.in_ok-answer.answer in
    subst (λ (p : PlantFields). IsCapturedRunOf p c.args.lines.items (status_code answer.status) answer.text.items) c.in_ok-core.ensures.plant_is c.in_ok-answer.ensures
