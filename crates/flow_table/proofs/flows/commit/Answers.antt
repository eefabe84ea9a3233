use Rattle.std.proofs.Common.{◌≡◌, ◌<◌, length, None, Err, nat_cmp, ap, arith}
use Rattle.flow_table.proofs.Common.{lookup, is_at}
use Rattle.flow_table.proofs.EntryLemmas.{length_put_new, none_is}
use Rattle.flow_table.proofs.flows.commit.Goals as goal

-- no row of this SFID stands, so there is room for one
pub add-requires-clause-room : goal.add-requires-clause-room
add-requires-clause-room c =
    let ledger = c.args.ledger.now in
    let none : lookup (is_at (nat_cmp c.args.sfid)) ledger.rows ≡ None = none_is _ (c.in-Err.ensures.not_there.0 (ap Err c.in-Err.ensures.only)) in
    let room : length ledger.rows < ledger.room = omega (arith, c.requires, length_put_new ledger.rows c.args.sfid c.args.budget none) in
    rw c.in-Err.ensures.err room
