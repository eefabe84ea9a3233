use Rattle.std.proofs.Common.{map, take}
use Rattle.plant_workers.proofs.AuditLemmas.Common.{view_of, HaveAdvanced}
use Rattle.plant_workers.proofs.audit.advancing.advance_to_the_end.Given as goal

abbrev pub invariant-loop-at : goal.invariant-loop-at
invariant-loop-at g l = HaveAdvanced l.plant (map view_of l.books) (take l.at l.steps) l.places
