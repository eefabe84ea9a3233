use Rattle.std.proofs.Common.{map}
use Rattle.operator_book.specs.ViewOf.{view_of}
use Rattle.plant_workers.proofs.AuditLemmas.Advanced.{HaveAdvancedTo}
use Rattle.plant_workers.proofs.audit.advancing.advance_all.Given as goal

abbrev pub invariant-loop-op : goal.invariant-loop-op
invariant-loop-op g l = HaveAdvancedTo l.plant (map view_of l.books) l.steps l.at l.op l.places
