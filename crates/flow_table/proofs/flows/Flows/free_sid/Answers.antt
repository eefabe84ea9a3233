use Rattle.std.proofs.Common.{◌∙◌}
use Rattle.admission.proofs.FreeLemmas.{least_free_found}
use Rattle.flow_table.proofs.UsedLemmas.{least_in_index}
use Rattle.flow_table.proofs.flows.Flows.free_sid.Goals as goal

pub returns-clause-exact : goal.returns-clause-exact
returns-clause-exact c = rw (← c.self.view_is) (c.least_free_sid.ensures ∙ least_in_index _ _ _ c.self.invariant.indexed)

pub returns-clause-found : goal.returns-clause-found
returns-clause-found c = least_free_found _ _ _ (rw (← c.self.view_is) (c.least_free_sid.ensures ∙ least_in_index _ _ _ c.self.invariant.indexed))
