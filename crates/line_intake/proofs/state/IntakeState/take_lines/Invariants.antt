use Rattle.std.proofs.Common.{◌≤◌}
use Rattle.std.specs.Prelude.{vec_len, vec_capacity}
use Rattle.line_intake.proofs.BatchLemmas.{SoTaken}
use Rattle.line_intake.proofs.state.IntakeState.take_lines.Given as goal

abbrev pub invariant-loop-length : goal.invariant-loop-length
invariant-loop-length l = record {
  so : SoTaken l.fn.batch.items l.batch.items l.fn.self.queue l.self.queue;
  len : vec_len l.batch ≤ l._length;
  room : l.fn.most ≤ vec_capacity l.batch;
}
