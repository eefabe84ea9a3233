use Rattle.std.proofs.Common.{◌≡◌, drop, map}
use Rattle.plant_core.proofs.LiveLemmas.Common.{least_unfit, slot_book}
use Rattle.plant_core.proofs.live.held.LiveCore.least_unfit.Given as goal

abbrev pub invariant-loop-op : goal.invariant-loop-op
invariant-loop-op l =
    least_unfit l.unfit l.from l.op (drop l.op (map slot_book l.self.desks.items)) (drop l.op l.rows) ≡ least_unfit l.unfit l.from 0 (map slot_book l.self.desks.items) l.rows
