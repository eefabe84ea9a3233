use Rattle.std.proofs.Common.{◌≤◌}
use Rattle.program_runner.proofs.refusal_reasons.further_texts.Given as goal

abbrev pub invariant-loop-place : goal.invariant-loop-place
invariant-loop-place l = l.first ≤ l.place
