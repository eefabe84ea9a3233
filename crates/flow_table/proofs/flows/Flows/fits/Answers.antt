use Rattle.std.proofs.Common.{◌≡◌, nat_cmp}
use Rattle.flow_table.proofs.Common.{insert_entry, total_minislots, total_elements, with_flow, committed_minislots, committed_elements}
use Rattle.flow_table.proofs.IndexLemmas.{minislots_after, elements_after}
use Rattle.flow_table.proofs.flows.Flows.fits.Goals as goal

minislots_are : (c : goal.After-fits) → total_minislots (insert_entry nat_cmp c.self.inside.ledger.rows c.args.sfid c.committed.result) ≡ committed_minislots c.args.self.now.units (with_flow c.args.sfid c.args.flow.now c.args.self.now.flows)
minislots_are c = rw (c.committed.ensures, ← c.self.view_is) (minislots_after c.self.invariant c.args.sfid c.args.flow.now)

elements_are : (c : goal.After-fits) → total_elements (insert_entry nat_cmp c.self.inside.ledger.rows c.args.sfid c.committed.result) ≡ committed_elements c.args.self.now.units (with_flow c.args.sfid c.args.flow.now c.args.self.now.flows)
elements_are c = rw (c.committed.ensures, ← c.self.view_is) (elements_after c.self.invariant c.args.sfid c.args.flow.now)

pub returns-clause-elements : goal.returns-clause-elements
returns-clause-elements c = rw (elements_are c) at c.fits.ensures.elements

pub returns-clause-minislots : goal.returns-clause-minislots
returns-clause-minislots c = rw (elements_are c, minislots_are c) at c.fits.ensures.minislots

pub returns-clause-ok : goal.returns-clause-ok
returns-clause-ok c = rw (elements_are c, minislots_are c) at c.fits.ensures.ok
