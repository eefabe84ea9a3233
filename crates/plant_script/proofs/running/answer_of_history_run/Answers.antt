use Rattle.std.proofs.Common.{subst}
use Rattle.plant_script.proofs.Common.{slice_get, PlantFields, IsScriptRun, history_at, status_code}
use Rattle.plant_script.proofs.running.answer_of_history_run.Goals as goal

pub returns : goal.returns
returns g c =
    let answer = c.in_ok-answer.answer in
    subst (λ (p : PlantFields). IsScriptRun p c.args.lines.items (λ done told. history_at (slice_get p.rows c.args.op) c.args.op done) (status_code answer.status) answer.text.items)
    c.in_ok-core.ensures.plant_is c.in_ok-answer.ensures
