use Rattle.std.proofs.Common.{◌≡◌, ◌++◌, length}
use Rattle.map_assembly.proofs.Common.{elements_in, spans_in}
use Rattle.map_assembly.proofs.reading.spans_in.Given as goal

abbrev pub invariant-loop-first : goal.invariant-loop-first
invariant-loop-first l = l.spans.items ++ spans_in (elements_in l.rest) ≡ spans_in (elements_in l.fn.bytes)

abbrev pub decreases-loop-first : goal.decreases-loop-first
decreases-loop-first l = length l.rest
