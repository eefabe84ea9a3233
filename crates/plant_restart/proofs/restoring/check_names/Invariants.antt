use Rattle.std.proofs.Common.{map, take}
use Rattle.plant_restart.proofs.Common.{SavedOperator, HaveRows}
use Rattle.plant_restart.proofs.restoring.check_names.Given as goal

abbrev pub invariant-loop-saved : goal.invariant-loop-saved
invariant-loop-saved l = HaveRows l.rows (map (λ (saved : SavedOperator). saved.name) (take l.saved-index l.operators))
