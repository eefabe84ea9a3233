use Rattle.std.proofs.Common.{length}
use Rattle.map_assembly.specs.LettingGo.{GoesOnAlike}
use Rattle.map_assembly.proofs.gather.Gather.let_go.Given as goal

abbrev pub invariant-loop-self : goal.invariant-loop-self
invariant-loop-self l = GoesOnAlike l.initial.self l.self

abbrev pub decreases-loop-self : goal.decreases-loop-self
decreases-loop-self l = length l.self.reslicings
