use Rattle.std.proofs.Common.{◌≡◌, ◌++◌, map, drop}
use Rattle.plant_restart.proofs.Common.{saved_by_name, refused_from}
use Rattle.plant_restart.proofs.refusing.refused_by_name.Given as goal

abbrev pub invariant-loop-op : goal.invariant-loop-op
invariant-loop-op l = l.refused.items ++ refused_from l.consts (map (saved_by_name l.frame) l.operators) l.op (drop l.op l.rows) ≡ refused_from l.consts (map (saved_by_name l.frame) l.operators) 0 l.rows
