use Rattle.std.proofs.Common.{◌≡◌, length}
use Rattle.map_assembly.specs.Apart.{all_apart}
use Rattle.map_assembly.proofs.checking.all_apart.Given as goal

abbrev pub invariant-loop-rest : goal.invariant-loop-rest
invariant-loop-rest l = all_apart l.rest ≡ all_apart l.fn.slices

abbrev pub decreases-loop-rest : goal.decreases-loop-rest
decreases-loop-rest l = length l.rest
