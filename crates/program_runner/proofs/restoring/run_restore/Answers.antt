use Rattle.std.proofs.Common.{List, ℕ, Some, sym, ap, ◌∙◌}
use Rattle.program_runner.proofs.Common.{option_append, is_snapshot_head}
use Rattle.program_runner.proofs.RestoreLemmas.{restore_resumed}
use Rattle.program_runner.proofs.restoring.run_restore.Goals as goal

pub returns : goal.returns
returns g c =
    let left = g.R.Read.remaining c.read_head.new.reader in
    restore_resumed (g.R.Read.remaining c.args.reader.now) left _ c.in-Ok.head.items c.run_resume.result
    (g.W.Write.contents c.args.writer.now) (g.W.Write.contents c.run_resume.new.writer) c.in-Ok.ensures
    (sym (ap is_snapshot_head c.as_slice.ensures.value) ∙ (sym c.is_snapshot_head.ensures ∙ c.if-not-is_snapshot_head.false))
    (c.chain-whole.ensures.bytes ∙ ap (λ (head : List ℕ). option_append (Some head) left) c.as_slice-2.ensures.value) c.run_resume.ensures
