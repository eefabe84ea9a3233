use Rattle.std.proofs.Common.{arith}
use Rattle.plant_workers.specs.cell_state.HeldView.{cell_book, waiting_of, history_room}
use Rattle.plant_workers.proofs.CellStateLemmas.RoomLemmas.{books_alike, waiting_alike, one_more_room}
use Rattle.plant_workers.proofs.cell_state.giving.make_room.Goals as goal

pub loop-op-preserved : goal.loop-op-preserved
loop-op-preserved g c =
    let now = c.loop-op.helds in
    one_more_room cell_book waiting_of history_room c.args.helds.now.items now.items now.len c.loop-op.op c.index_mut.result.now c.make_room.new.self now.ok.0
    (omega (arith, c.loop-op-test.true, c.len-op-end.ensures, c.loop-op.invariant.one_each, now.ok.0, c.args.helds.now.ok.0))
    c.index_mut.ensures.value c.make_room.ensures.book c.make_room.ensures.waiting c.loop-op.invariant c.in_ok-make_room.ensures.room

pub returns-in_err-make_room-clause-books : goal.returns-in_err-make_room-clause-books
returns-in_err-make_room-clause-books g c =
    let now = c.loop-op.helds in
    books_alike cell_book waiting_of history_room c.args.helds.now.items now.items now.len c.loop-op.op c.index_mut.result.now c.make_room.new.self now.ok.0
    (omega (arith, c.loop-op-test.true, c.len-op-end.ensures, c.loop-op.invariant.one_each, now.ok.0, c.args.helds.now.ok.0))
    c.index_mut.ensures.value c.make_room.ensures.book c.make_room.ensures.waiting c.loop-op.invariant

pub returns-in_err-make_room-clause-waiting : goal.returns-in_err-make_room-clause-waiting
returns-in_err-make_room-clause-waiting g c =
    let now = c.loop-op.helds in
    waiting_alike cell_book waiting_of history_room c.args.helds.now.items now.items now.len c.loop-op.op c.index_mut.result.now c.make_room.new.self now.ok.0
    (omega (arith, c.loop-op-test.true, c.len-op-end.ensures, c.loop-op.invariant.one_each, now.ok.0, c.args.helds.now.ok.0))
    c.index_mut.ensures.value c.make_room.ensures.book c.make_room.ensures.waiting c.loop-op.invariant
