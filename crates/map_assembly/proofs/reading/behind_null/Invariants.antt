use Rattle.std.proofs.Common.{◌≡◌, length}
use Rattle.map_assembly.proofs.Common.{elements_in, behind_null}
use Rattle.map_assembly.proofs.reading.behind_null.Given as goal

abbrev pub invariant-loop-first : goal.invariant-loop-first
invariant-loop-first l = behind_null (elements_in l.rest) ≡ behind_null (elements_in l.fn.bytes)

abbrev pub decreases-loop-first : goal.decreases-loop-first
decreases-loop-first l = length l.rest
