use Rattle.command_line.specs.Order.{asked_of}
use Rattle.program_runner.proofs.WithoutOptions.{asked_out_of_memory}
use Rattle.program_runner.proofs.running.run_line.Goals as goal

pub returns-in_default : goal.returns-in_default
returns-in_default g c = λ bare.
    asked_out_of_memory (asked_of c.args.line.word) (g.R.Read.remaining c.args.reader.now) c.answer_out_of_memory.result (g.W.Write.contents c.args.writer.now)
    (g.W.Write.contents c.answer_out_of_memory.new.writer) c.answer_out_of_memory.ensures
