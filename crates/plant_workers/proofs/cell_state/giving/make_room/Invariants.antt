use Rattle.plant_workers.specs.cell_state.HeldView.{cell_book, waiting_of, history_room}
use Rattle.plant_workers.proofs.CellStateLemmas.RoomLemmas.{HaveRoomSoFar}
use Rattle.plant_workers.proofs.cell_state.giving.make_room.Given as goal

abbrev pub invariant-loop-op : goal.invariant-loop-op
invariant-loop-op g l = HaveRoomSoFar cell_book waiting_of history_room l.initial.helds.items l.helds.items l.op
