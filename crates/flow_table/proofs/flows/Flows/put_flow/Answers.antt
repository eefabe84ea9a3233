use Rattle.flow_table.proofs.Common.{FlowTable, HasRoomFor}
use Rattle.flow_table.proofs.IndexLemmas.{row_room, table_put, index_put}
use Rattle.flow_table.proofs.flows.Flows.put_flow.Goals as goal

pub commit-requires : goal.commit-requires
commit-requires c =
    let room = rw (← c.self.view_is) at c.requires.room in
    rw (c.committed-committed.ensures, c.deref.ensures) (row_room c.self.invariant c.args.sfid c.args.flow.value room)

pub invariant_of-self-2 : goal.invariant_of-self-2
invariant_of-self-2 c =
    let inside = c.self.inside in
    let flow = c.args.flow.value in
    let table : FlowTable = record { capacity = inside.capacity; units = inside.units; flows = inside.by_sfid } in
    let may : HasRoomFor table c.args.sfid flow = rw (← c.self.view_is) at c.requires in
    let indexed = index_put c.self.invariant.indexed c.args.sfid flow may.sid in
    rw (c.commit.ensures, c.free.ensures, c.in_ok-had.ensures.flows, c.in_ok-had.ensures.index, c.in_ok-had.ensures.had)
    (rw (c.committed-committed.ensures, c.deref.ensures, c.deref-2.ensures)
    (table_put c.self.invariant c.args.sfid flow _ may.room indexed))
