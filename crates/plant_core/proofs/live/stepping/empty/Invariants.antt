use Rattle.std.proofs.Common.{◌≡◌, length}
use Rattle.plant_core.proofs.live.stepping.empty.Given as goal

abbrev pub invariant-loop-out : goal.invariant-loop-out
invariant-loop-out l = l.gather ≡ l.fn.gather

abbrev pub decreases-loop-out : goal.decreases-loop-out
decreases-loop-out l = length l.outs.items
