use Rattle.std.proofs.Common.{◌≤◌, length}
use Rattle.line_intake.proofs.reading.read_line.Given as goal

abbrev pub invariant-loop : goal.invariant-loop
invariant-loop g l = length l.line.items ≤ 4097
