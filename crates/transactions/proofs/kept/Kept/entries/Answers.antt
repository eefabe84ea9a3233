use Rattle.std.proofs.Common.{ap, subst}
use Rattle.transactions.specs.Keeping.{Keeping, OneEach}
use Rattle.transactions.proofs.kept.Kept.entries.Goals as goal

pub returns-clause-one_each : goal.returns-clause-one_each
returns-clause-one_each c = subst OneEach (ap (λ (k : Keeping). k.entries) c.self.view_is) c.self.invariant.one_each
