use Rattle.plant_script.proofs.Common.{if_ok, IsThreadedRunOf, status_code}
use Rattle.plant_script.proofs.Reached.{outcome_written}
use Rattle.plant_script.proofs.on_threads.write_threaded_run.Goals as goal

pub returns : goal.returns
returns g c =
    if_ok c.write_outcome.result _ _
    (λ status told. outcome_written (IsThreadedRunOf c.args.plant c.args.lines.items) c.answer_of_threads-answer.result (status_code status) _ c.answer_of_threads-answer.ensures told)
    c.write_outcome.ensures
