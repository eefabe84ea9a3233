use Rattle.std.proofs.Common.{◌≡◌, take, map}
use Rattle.plant_restart.proofs.Common.{sound_of, operator_by_name, saved_by_name}
use Rattle.plant_restart.proofs.restarting.machines_by_name.Given as goal

abbrev pub invariant-loop-op : goal.invariant-loop-op
invariant-loop-op l = map sound_of l.machines.items ≡ map (operator_by_name l.consts l.frame (map (saved_by_name l.frame) l.operators)) (take l.op l.rows)
