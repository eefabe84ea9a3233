-- What was reached without threads is completed.
use Rattle.std.proofs.Common.{◌≢◌, ℕ, sym, subst, ◌∙◌}
use Rattle.plant_script.proofs.Common.{Appends, texts, AnswersWords, status_code}
use Rattle.plant_script.proofs.Reached.{words_completed}
use Rattle.plant_script.proofs.program.run_program.Goals as goal

pub returns-clause-answered : goal.returns-clause-answered
returns-clause-answered g c = λ no_io.
    let ended = status_code c.end_program.result in
    let old = g.W.Write.contents c.args.writer.now in
    let new = g.W.Write.contents c.end_program.new.writer in
    let no_io_here : ended ≢ 6 = λ six. no_io (c.code.ensures ∙ six) in
    subst (λ (n : ℕ). AnswersWords (texts c.args.words.now) (g.R.Read.remaining c.args.reader.now) n (λ text. Appends old new text)) (sym c.code.ensures)
    (words_completed (texts c.args.words.now) (g.R.Read.remaining c.args.reader.now) c.run_without_threads-reached.result ended old (g.W.Write.contents c.run_without_threads-reached.new.writer) new c.run_without_threads-reached.ensures.answered
    (c.end_program.ensures.written no_io_here) no_io_here)
