use Rattle.std.proofs.Common.{List, ℕ, Some, sym, ap, ◌∙◌}
use Rattle.program_runner.proofs.Common.{texts, option_append, is_snapshot_head}
use Rattle.program_runner.proofs.RestoreLemmas.{run_performed}
use Rattle.program_runner.proofs.WithoutOptions.{run_out_of_memory}
use Rattle.program_runner.proofs.restoring.run_input.Goals as goal

pub returns : goal.returns
returns g c =
    let left = g.R.Read.remaining c.read_head.new.reader in
    run_performed (texts c.args.command.now.words.now) (g.R.Read.remaining c.args.reader.now) left _ c.in-Ok.head.items c.run_program_with_reasons.result
    (g.W.Write.contents c.args.writer.now) (g.W.Write.contents c.run_program_with_reasons.new.writer) c.in-Ok.ensures
    (sym (ap is_snapshot_head c.as_slice-2.ensures.value) ∙ (sym c.is_snapshot_head.ensures ∙ c.if-is_snapshot_head.false))
    (c.chain-whole.ensures.bytes ∙ ap (λ (head : List ℕ). option_append (Some head) left) c.as_slice.ensures.value) c.run_program_with_reasons.ensures.answered

pub returns-in-Err : goal.returns-in-Err
returns-in-Err g c =
    run_out_of_memory (texts c.args.command.now.words.now) (g.R.Read.remaining c.args.reader.now) c.refuse_unread.result (g.W.Write.contents c.args.writer.now)
    (g.W.Write.contents c.refuse_unread.new.writer) c.refuse_unread.ensures
