use Rattle.std.proofs.Common.{◌≡◌, ◌++◌, map, take}
use Rattle.plant_restart.specs.Refused.{refused_state}
use Rattle.plant_restart.proofs.refusing.push_faults.Given as goal

abbrev pub invariant-loop-why : goal.invariant-loop-why
invariant-loop-why l = l.refused.items ≡ l.fn.refused.items ++ map (refused_state l.op) (take l.why-index l.faults)
