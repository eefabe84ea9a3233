use Rattle.std.proofs.Common.{◌≡◌, ◌++◌, map, length}
use Rattle.map_assembly.proofs.Common.{MapElement, elements_in}
use Rattle.map_assembly.proofs.reading.sids_in.Given as goal

abbrev pub invariant-loop-first : goal.invariant-loop-first
invariant-loop-first l = l.sids.items ++ map (λ (e : MapElement). e.sid) (elements_in l.rest) ≡ map (λ (e : MapElement). e.sid) (elements_in l.fn.bytes)

abbrev pub decreases-loop-first : goal.decreases-loop-first
decreases-loop-first l = length l.rest
