use Rattle.std.proofs.Common.{ℕ, ◌<◌, ◌≤◌}
use Rattle.plant_workers.proofs.AuditLemmas.Common.{collects_of, ticks_of}
use Rattle.plant_workers.proofs.audit.counting.are_ticked.Given as goal

abbrev pub invariant-loop-op : goal.invariant-loop-op
invariant-loop-op l = (i : ℕ) → i < l.op → collects_of i l.steps ≤ ticks_of i l.steps
