use Rattle.std.proofs.Common.{Err, ap, sym, ◌∙◌, List, ℕ}
use Rattle.admission.specs.declared.budget.Budget.{Budget}
use Rattle.flow_table.proofs.EntryLemmas.{taken_none, none_is}
use Rattle.flow_table.proofs.flows.release.Goals as goal

pub returns-in-Err : goal.returns-in-Err
returns-in-Err c =
    let rows = c.args.ledger.now.rows in
    let none = none_is _ (c.in-Err.ensures.not_there.0 (ap Err c.in-Err.ensures.only)) in
    c.in-Err.ensures.err ∙ ap (λ (l : List (ℕ × Budget)). record { room = c.args.ledger.now.room; rows = l }) (sym (taken_none rows c.args.sfid none))
