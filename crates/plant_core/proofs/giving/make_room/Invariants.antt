use Rattle.plant_core.proofs.GiveLemmas.{HaveRoomSoFar}
use Rattle.plant_core.proofs.giving.make_room.Given as goal

abbrev pub invariant-loop-op : goal.invariant-loop-op
invariant-loop-op l = HaveRoomSoFar l.initial.histories.items l.histories.items l.op
