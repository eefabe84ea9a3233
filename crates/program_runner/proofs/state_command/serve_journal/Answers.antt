use Rattle.std.proofs.Common.{rules, ◌≡◌, inl, refl}
use Rattle.journal_file.specs.File.{seen_bytes}
use Rattle.program_runner.proofs.StateLemmas.{served_behind}
use Rattle.program_runner.proofs.state_command.serve_journal.Goals as goal

pub returns-in-Ok : goal.returns-in-Ok
returns-in-Ok g c = λ other.
    let front = g.R.Read.remaining c.new-reader.result.reader.now in
    let read = g.R.Read.remaining c.args.reader.now in
    let same : front ≡ read = search rules in
    inl (refl, served_behind (seen_bytes c.args.device) _ (g.W.Write.contents c.args.writer.now) (g.W.Write.contents c.serve_state-ended.new.writer) front read same c.in-Ok.ensures.served)
