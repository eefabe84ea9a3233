use Rattle.std.proofs.Common.{◌≡◌, map, drop}
use Rattle.plant_restart.proofs.Common.{state_under, saved_by_name}
use Rattle.plant_restart.proofs.restarting.state_under.Given as goal

abbrev pub invariant-loop-saved : goal.invariant-loop-saved
invariant-loop-saved l = state_under (map (saved_by_name l.frame) l.operators) l.name ≡ state_under (map (saved_by_name l.frame) (drop l.saved-index l.operators)) l.name
