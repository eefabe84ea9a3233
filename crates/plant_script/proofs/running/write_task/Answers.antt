use Rattle.std.proofs.Common.{ℕ, IfOk, sym, subst}
use Rattle.plant_script.proofs.Common.{if_ok, status_code, RunsTo}
use Rattle.command_line.specs.declared.asked.RunReport.{RunReport}
use Rattle.plant_script.proofs.Reached.{outcome_written}
use Rattle.plant_script.proofs.running.write_task.Goals as goal

pub returns-in-Capture : goal.returns-in-Capture
returns-in-Capture g c =
    let task = c.args.task in
    let outcome = c.answer_of_capture_run-answer.result in
    if_ok c.write_outcome.result _ _
    (λ status told. outcome_written (RunsTo task.plant task.report c.args.script.now task.lines.items) outcome (status_code status) _
    (subst (λ (r : RunReport ℕ). IfOk outcome (λ answer. RunsTo task.plant r c.args.script.now task.lines.items (status_code answer.status) answer.text.items))
    (sym c.in-Capture.is) c.answer_of_capture_run-answer.ensures) told)
    c.write_outcome.ensures

pub returns-in-History : goal.returns-in-History
returns-in-History g c =
    let task = c.args.task in
    let outcome = c.answer_of_history_run-answer.result in
    if_ok c.write_outcome-in-History.result _ _
    (λ status told. outcome_written (RunsTo task.plant task.report c.args.script.now task.lines.items) outcome (status_code status) _
    (subst (λ (r : RunReport ℕ). IfOk outcome (λ answer. RunsTo task.plant r c.args.script.now task.lines.items (status_code answer.status) answer.text.items))
    (sym c.in-History.is) c.answer_of_history_run-answer.ensures) told)
    c.write_outcome-in-History.ensures
