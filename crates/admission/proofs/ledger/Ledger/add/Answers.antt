use Rattle.std.proofs.Common.{◌<◌, length, ap, arith}
use Rattle.admission.proofs.Common.{iff_false, LedgerView}
use Rattle.admission.proofs.LedgerLemmas.{CanReplace-gap, IsLedger-add}
use Rattle.admission.proofs.ledger.Ledger.add.Goals as goal

pub replace_row-self-inside-requires : goal.replace_row-self-inside-requires
replace_row-self-inside-requires c =
    let rows = ap (λ (ledger : LedgerView). ledger.rows) c.self.view_is in
    CanReplace-gap c.self.invariant c.args.sfid c.in-Err.place (rw rows c.in-Err.ensures.absent)

pub invariant_of-self : goal.invariant_of-self
invariant_of-self c =
    let rows = ap (λ (ledger : LedgerView). ledger.rows) c.self.view_is in
    let room = ap (λ (ledger : LedgerView). ledger.room) c.self.view_is in
    let totals = c.replace_row-self-inside.ensures in
    let few : length c.self.inside.rows.items < c.self.inside.room = omega (arith, ap length rows, room, c.self.invariant.within, iff_false c.is_full.ensures c.if-is_full.false) in
    rw c.insert_row.ensures.items
    (IsLedger-add c.self.invariant c.args.sfid c.in-Err.place (rw rows c.in-Err.ensures.absent) _ _ _ _ few c.insert_row.ensures.capacity totals.numbers totals.minislots totals.elements)
