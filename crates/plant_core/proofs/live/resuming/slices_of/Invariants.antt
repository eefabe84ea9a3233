use Rattle.std.proofs.Common.{◌≡◌, map, take}
use Rattle.plant_core.specs.live.LiveOperator.{current_slice}
use Rattle.plant_core.proofs.live.resuming.slices_of.Given as goal

abbrev pub invariant-loop-live : goal.invariant-loop-live
invariant-loop-live l = l.slices.items ≡ map current_slice (take l.live-index l.lives)
