use Rattle.std.proofs.Common.{ℕ, map}
use Rattle.plant_workers.proofs.AuditLemmas.Common.{view_of, AllAreNumbered}
use Rattle.plant_workers.proofs.AuditLemmas.Least.{IsFirstOf}
use Rattle.plant_workers.proofs.audit.putting.first_put_stray.Given as goal

abbrev pub invariant-loop-op : goal.invariant-loop-op
invariant-loop-op g l =
    (first : ℕ) → AllAreNumbered first l.steps (map view_of l.books) l.placings → IsFirstOf first l.steps (map view_of l.books) l.placings l.op l.least
