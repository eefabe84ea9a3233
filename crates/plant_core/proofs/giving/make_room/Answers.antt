use Rattle.std.proofs.Common.{arith}
use Rattle.plant_core.proofs.GiveLemmas.{entries_alike, one_more_room}
use Rattle.plant_core.proofs.giving.make_room.Goals as goal

pub loop-op-preserved : goal.loop-op-preserved
loop-op-preserved c =
    let now = c.loop-op.histories in
    one_more_room c.args.histories.now.items now.items now.len c.loop-op.op c.index_mut.result.now c.make_room.new.self now.ok.0
    (omega (arith, c.loop-op-test.true, c.len-op-end.ensures, c.loop-op.invariant.one_each, now.ok.0, c.args.histories.now.ok.0))
    c.index_mut.ensures.value c.make_room.ensures.entries c.loop-op.invariant c.in_ok-make_room.ensures.room

pub returns-in_err-make_room-clause-entries : goal.returns-in_err-make_room-clause-entries
returns-in_err-make_room-clause-entries c =
    let now = c.loop-op.histories in
    entries_alike c.args.histories.now.items now.items now.len c.loop-op.op c.index_mut.result.now c.make_room.new.self now.ok.0
    (omega (arith, c.loop-op-test.true, c.len-op-end.ensures, c.loop-op.invariant.one_each, now.ok.0, c.args.histories.now.ok.0))
    c.index_mut.ensures.value c.make_room.ensures.entries c.loop-op.invariant
