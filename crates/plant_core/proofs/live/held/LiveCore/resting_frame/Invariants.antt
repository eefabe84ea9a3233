use Rattle.std.proofs.Common.{map, take}
use Rattle.plant_core.proofs.LiveLemmas.Common.{core_of, slot_book, slot_waiting, Rests}
use Rattle.plant_core.proofs.live.held.LiveCore.resting_frame.Given as goal

-- the operators so far rest before the first one's frame
abbrev pub invariant-loop-op : goal.invariant-loop-op
invariant-loop-op l =
    Rests (core_of l.self.routes (take l.op (map slot_book l.self.desks.items)) (take l.op (map slot_waiting l.self.desks.items)) l.self.gather) l.frame
