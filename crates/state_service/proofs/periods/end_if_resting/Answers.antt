use Rattle.std.proofs.Common.{List, ℕ, Option, subst}
use Rattle.state_service.proofs.Common.{live_view, IsKeptState, IsKeptOf}
use Rattle.state_service.specs.declared.durable.saving.KeptState.{KeptState}
use Rattle.state_service.proofs.ServeLemmas.{state_due_where}
use Rattle.state_service.proofs.periods.end_if_resting.Goals as goal

pub returns-clause-on : goal.returns-clause-on
returns-clause-on c file first count known rest written now part same so_far =
    let service = c.args.service.now in
    let live = live_view service.core in
    let kept = c.in-Some.kept in
    state_due_where file first count part known rest written live service.count now (record { kept = kept; answer = c.new.result }) c.new.ensures.items
    (subst (λ (f : List ℕ). IsKeptState live f service.count kept.snapshot kept.start.plant kept.start.saved) same
    (subst (λ (o : Option KeptState). IsKeptOf live service.file service.count o) c.in-Some.is c.in_ok-kept.ensures.kept)) so_far
