use Rattle.std.proofs.Common.{◌≡◌, nat_cmp, ap}
use Rattle.admission.proofs.Common.{insert_entry, LedgerView, total_minislots, total_elements}
use Rattle.admission.proofs.LedgerLemmas.{CanReplace-budget_at, minislots-insert_entry, elements-insert_entry}
use Rattle.admission.proofs.ledger.Ledger.fits.Goals as goal

pub replace_row-requires : goal.replace_row-requires
replace_row-requires c =
    let rows = ap (λ (ledger : LedgerView). ledger.rows) c.self.view_is in
    rw (c.unwrap_or-old.ensures, c.get.ensures, ← rows) (CanReplace-budget_at c.self.invariant c.args.sfid)

minislots_are : (c : goal.After-within) → c.replace_row.result.minislots ≡ total_minislots (insert_entry nat_cmp c.args.self.now.rows c.args.sfid c.args.budget)
minislots_are c =
    let rows = ap (λ (ledger : LedgerView). ledger.rows) c.self.view_is in
    rw (← rows) (minislots-insert_entry c.self.invariant c.args.sfid _ c.args.budget (rw (c.unwrap_or-old.ensures, c.get.ensures, ← rows) at c.replace_row.ensures.minislots))

elements_are : (c : goal.After-within) → c.replace_row.result.elements ≡ total_elements (insert_entry nat_cmp c.args.self.now.rows c.args.sfid c.args.budget)
elements_are c =
    let rows = ap (λ (ledger : LedgerView). ledger.rows) c.self.view_is in
    rw (← rows) (elements-insert_entry c.self.invariant c.args.sfid _ c.args.budget (rw (c.unwrap_or-old.ensures, c.get.ensures, ← rows) at c.replace_row.ensures.elements))

pub returns-clause-elements : goal.returns-clause-elements
returns-clause-elements c = rw (elements_are c) at c.within.ensures.elements

pub returns-clause-minislots : goal.returns-clause-minislots
returns-clause-minislots c = rw (elements_are c, minislots_are c) at c.within.ensures.minislots

pub returns-clause-ok : goal.returns-clause-ok
returns-clause-ok c = rw (elements_are c, minislots_are c) at c.within.ensures.ok
