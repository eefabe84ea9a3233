use Rattle.flow_table.proofs.IndexLemmas.{table_taken, index_taken}
use Rattle.flow_table.proofs.flows.Flows.remove.Goals as goal

pub invariant_of-self : goal.invariant_of-self
invariant_of-self c =
    let indexed = index_taken c.self.invariant.indexed c.args.sfid in
    rw (c.release.ensures, c.free.ensures, c.remove-had.ensures.flows, c.remove-had.ensures.had) (table_taken c.self.invariant c.args.sfid _ indexed)
