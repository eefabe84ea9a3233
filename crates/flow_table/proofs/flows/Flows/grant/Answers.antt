use Rattle.std.proofs.Common.{refl}
use Rattle.flow_table.specs.Flow.{flow_after_grant}
use Rattle.flow_table.proofs.MovedLemmas.{table_moved}
use Rattle.flow_table.proofs.flows.Flows.grant.Goals as goal

pub invariant_of-self : goal.invariant_of-self
invariant_of-self c = rw c.grant.ensures (table_moved c.self.invariant c.args.sfid (flow_after_grant c.args.minislots c.args.frame) (λ f. refl) (λ f. refl))
