use Rattle.transactions.proofs.TickLemmas.{IsKept-tick}
use Rattle.transactions.proofs.kept.Kept.count_down.Goals as goal

pub invariant_of-self : goal.invariant_of-self
invariant_of-self c =
    rw (c.count_down.ensures.items, c.count_down.ensures.capacity) (IsKept-tick _ c.self.invariant)
