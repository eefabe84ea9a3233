use Rattle.flow_table.proofs.Common.{least_free_found}
use Rattle.flow_table.proofs.flows.Flows.free_sfid.Goals as goal

pub returns-clause-found : goal.returns-clause-found
returns-clause-found c = least_free_found _ _ _ (rw (← c.self.view_is) c.least_free.ensures)
