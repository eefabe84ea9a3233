use Rattle.std.proofs.Common.{not, rules}
use Rattle.transactions.proofs.Common.{KeptEntry, is_forgotten, entry_after_tick}
use Rattle.transactions.proofs.ListLemmas.{retained}
use Rattle.transactions.proofs.tick.count_down.Goals as goal

pub returns-clause-items : goal.returns-clause-items
returns-clause-items c =
    retained _ _ (λ (e : KeptEntry). not (is_forgotten e)) (entry_after_tick c.args.timers)
    (λ x b t y h. let met = h.called.met in (search rules, search rules, search rules))
    _ _ c.retain_mut.ensures.filtered
