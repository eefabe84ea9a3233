use Rattle.std.proofs.Common.{ap}
use Rattle.admission.specs.Ledger.{LedgerView}
use Rattle.admission.proofs.LedgerLemmas.{CanReplace-row, IsLedger-change}
use Rattle.admission.proofs.ledger.Ledger.change.Goals as goal

pub replace_row-self-inside-requires : goal.replace_row-self-inside-requires
replace_row-self-inside-requires c =
    let rows = ap (λ (ledger : LedgerView). ledger.rows) c.self.view_is in
    CanReplace-row c.self.invariant c.args.sfid c.in-Ok.place (rw rows c.in-Ok.ensures.found) _ c.index.ensures

pub invariant_of-self : goal.invariant_of-self
invariant_of-self c =
    let rows = ap (λ (ledger : LedgerView). ledger.rows) c.self.view_is in
    let totals = c.replace_row-self-inside.ensures in
    IsLedger-change c.self.invariant c.args.sfid c.in-Ok.place (rw rows c.in-Ok.ensures.found) _ c.index.ensures _ _ _ totals.numbers totals.minislots totals.elements
