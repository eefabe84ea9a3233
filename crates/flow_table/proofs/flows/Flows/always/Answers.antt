use Rattle.flow_table.proofs.IndexLemmas.{own_sids}
use Rattle.flow_table.proofs.flows.Flows.always.Goals as goal

pub returns-clause-own_sids : goal.returns-clause-own_sids
returns-clause-own_sids c = rw (← c.self.view_is) (own_sids c.self.invariant.indexed)
