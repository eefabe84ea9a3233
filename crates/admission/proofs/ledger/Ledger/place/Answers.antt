use Rattle.admission.proofs.RowLemmas.{there_from_found, free_from_absent}
use Rattle.admission.proofs.ledger.Ledger.place.Goals as goal

pub returns-clause-found : goal.returns-clause-found
returns-clause-found c = rw (← c.self.view_is, ← c.deref.ensures.value) c.place_of.ensures.found

pub returns-clause-absent : goal.returns-clause-absent
returns-clause-absent c = rw (← c.self.view_is, ← c.deref.ensures.value) c.place_of.ensures.absent

pub returns-clause-there : goal.returns-clause-there
returns-clause-there c = there_from_found _ _ _ (returns-clause-found c)

pub returns-clause-free : goal.returns-clause-free
returns-clause-free c = free_from_absent _ _ _ (returns-clause-absent c)
