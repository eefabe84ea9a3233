use Rattle.std.proofs.Common.{ℕ, Some, get_or, ap, sym, ◌∙◌}
use Rattle.admission.proofs.Common.{Budget, LedgerView}
use Rattle.admission.proofs.ledger.Ledger.get.Goals as goal

pub returns-in-Ok : goal.returns-in-Ok
returns-in-Ok c =
    let row : ℕ × Budget = c.index.result.now in
    ap (λ (r : ℕ × Budget). Some r.1) c.index.ensures
    ∙ (ap (λ (ledger : LedgerView). Some (get_or ledger.rows c.in-Ok.place row).1) c.self.view_is
    ∙ sym (c.in-Ok.ensures.found.there row))

pub returns-in-Err : goal.returns-in-Err
returns-in-Err c = sym c.in-Err.ensures.absent.absent
