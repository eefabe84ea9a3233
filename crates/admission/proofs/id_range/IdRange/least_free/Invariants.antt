use Rattle.std.proofs.Common.{◌-◌}
use Rattle.admission.proofs.FreeLemmas.{IsPassed}
use Rattle.admission.proofs.id_range.IdRange.least_free.Given as goal

abbrev pub invariant-loop-place : goal.invariant-loop-place
invariant-loop-place l = IsPassed l.self l.used l.base

abbrev pub decreases-loop-place : goal.decreases-loop-place
decreases-loop-place l = l.self-inside.last - l.base
