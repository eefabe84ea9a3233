use Rattle.std.proofs.Common.{take}
use Rattle.map_assembly.specs.Plan.{AreSlices}
use Rattle.map_assembly.proofs.checking.first_invalid_slice.Given as goal

abbrev pub invariant-loop-op : goal.invariant-loop-op
invariant-loop-op l = AreSlices l.channel l.op (take l.op l.slices)
