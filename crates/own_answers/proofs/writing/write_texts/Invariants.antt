use Rattle.own_answers.specs.Writing.{byte_lists}
use Rattle.own_answers.proofs.WriteLemmas.{SoFar}
use Rattle.own_answers.proofs.writing.write_texts.Given as goal

abbrev pub invariant-loop-place : goal.invariant-loop-place
invariant-loop-place g l = SoFar g.W.TextWriter.puts (byte_lists l.fn.texts) l.place l.fn.writers l.writers l.is_written
