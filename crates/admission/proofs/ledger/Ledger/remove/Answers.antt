use Rattle.std.proofs.Common.{ap}
use Rattle.admission.specs.Ledger.{LedgerView}
use Rattle.admission.proofs.LedgerLemmas.{CanReplace-row, IsLedger-remove}
use Rattle.admission.proofs.ledger.Ledger.remove.Goals as goal

pub replace_row-self-inside-requires : goal.replace_row-self-inside-requires
replace_row-self-inside-requires c =
    let rows = ap (λ (ledger : LedgerView). ledger.rows) c.self.view_is in
    CanReplace-row c.self.invariant c.args.sfid c.in-Ok.place (rw rows c.in-Ok.ensures.found) _ c.remove.ensures.value

pub invariant_of-self : goal.invariant_of-self
invariant_of-self c =
    let rows = ap (λ (ledger : LedgerView). ledger.rows) c.self.view_is in
    let totals = c.replace_row-self-inside.ensures in
    rw (c.remove.ensures.items, c.remove.ensures.capacity)
    (IsLedger-remove c.self.invariant c.args.sfid c.in-Ok.place (rw rows c.in-Ok.ensures.found) _ c.remove.ensures.value _ _ totals.minislots totals.elements)
