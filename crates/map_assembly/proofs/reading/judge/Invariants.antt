use Rattle.std.proofs.Common.{◌≡◌, ◌+◌, ◌*◌, ◌≤◌, length}
use Rattle.map_assembly.proofs.Common.{elements_in, count_before_null}
use Rattle.map_assembly.proofs.reading.judge.Given as goal

abbrev pub invariant-loop-first : goal.invariant-loop-first
invariant-loop-first l = record {
  same : count_before_null l.at l.least (elements_in l.rest) ≡ count_before_null 0 0 (elements_in l.fn.bytes);
  place : 4 * l.at + length l.rest ≤ 1020;
}

abbrev pub decreases-loop-first : goal.decreases-loop-first
decreases-loop-first l = length l.rest
