use Rattle.std.proofs.Common.{◌≡◌, ℕ, ◌<◌, map, Option, Some, None}
use Rattle.plant_workers.proofs.Common.{slice_get, EarlyEnd, of_assembly}
use Rattle.plant_workers.proofs.thread_report.first_of_assembly.Given as goal

abbrev pub invariant-loop-thread_report : goal.invariant-loop-thread_report
invariant-loop-thread_report l =
    (i : ℕ) (other : Option EarlyEnd) → i < l.thread_report-index → slice_get (map (λ thread_report. thread_report.refused) l.thread_reports) i ≡ Some other → of_assembly other ≡ None
