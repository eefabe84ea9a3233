use Rattle.std.proofs.Common.{take}
use Rattle.plant_workers.proofs.AuditLemmas.Common.{is_collect, AreCountsOf}
use Rattle.plant_workers.proofs.audit.counting.count_all_collects.Given as goal

abbrev pub invariant-loop-at : goal.invariant-loop-at
invariant-loop-at l = AreCountsOf is_collect (take l.at l.steps) l.counts
