use Rattle.std.proofs.Common.{◌≡◌, ◌+◌, ◌≤◌, length}
use Rattle.map_assembly.proofs.Common.{elements_in, judged_behind}
use Rattle.map_assembly.proofs.reading.judge_behind.Given as goal

abbrev pub invariant-loop-first : goal.invariant-loop-first
invariant-loop-first l = record {
  same : judged_behind l.spans l.end l.at (elements_in l.rest) ≡ judged_behind l.spans l.end (l.spans + 1) (elements_in l.fn.bytes);
  place : l.at + length l.rest ≤ 1276;
}

abbrev pub decreases-loop-first : goal.decreases-loop-first
decreases-loop-first l = length l.rest
