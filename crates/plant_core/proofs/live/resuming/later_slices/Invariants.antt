use Rattle.std.proofs.Common.{◌≡◌, map, take}
use Rattle.plant_core.specs.live.LiveOperator.{later_at}
use Rattle.plant_core.proofs.live.resuming.later_slices.Given as goal

abbrev pub invariant-loop-live : goal.invariant-loop-live
invariant-loop-live l = l.slices.items ≡ map later_at (take l.live-index l.lives)
