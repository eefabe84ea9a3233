use Rattle.std.proofs.Common.{◌≡◌, drop}
use Rattle.plant_core.proofs.LiveLemmas.Common.{position_from, do_meet}
use Rattle.plant_core.proofs.live.judging.first_met.Given as goal

abbrev pub invariant-loop-op : goal.invariant-loop-op
invariant-loop-op l = position_from (do_meet l.row) l.op (drop l.op l.rows) ≡ position_from (do_meet l.row) l.from (drop l.from l.rows)
