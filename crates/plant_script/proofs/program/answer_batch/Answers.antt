use Rattle.std.proofs.Common.{ℕ, List, IfSome, subst}
use Rattle.plant_script.proofs.Common.{Appends, batch_order, InputOutcome, status_code, noted_script, RunsTo, IsWritten, Comes, AnswersWith}
use Rattle.plant_script.proofs.Reached.{task_ends}
use Rattle.plant_script.proofs.program.answer_batch.Goals as goal

pub returns-in_ok-status-in-Ok-Task : goal.returns-in_ok-status-in-Ok-Task
returns-in_ok-status-in-Ok-Task g c =
    let task = c.in-Ok-Task.task in
    let status = status_code c.in_ok-status-in-Ok-Task.status in
    task_ends (batch_order c.args.word) (g.R.Read.remaining c.args.reader.now) c.serve.new.seen.failed task (noted_script c.serve.new.seen.input) status _
    (subst (λ (outcome : InputOutcome). IfSome (g.R.Read.remaining c.args.reader.now) (λ input. Comes outcome (noted_script c.serve.new.seen.input) (AnswersWith (batch_order c.args.word) input)))
    c.in-Ok-Task.field-0-is c.in-Ok-Task.ensures.served)
    (subst (λ (script : List ℕ). IsWritten (RunsTo task.plant task.report script task.lines.items) status (λ text. Appends (g.W.Write.contents c.args.writer.now) (g.W.Write.contents c.write_ranked.new.writer) text)) c.script_of.ensures c.in_ok-status-in-Ok-Task.ensures)
