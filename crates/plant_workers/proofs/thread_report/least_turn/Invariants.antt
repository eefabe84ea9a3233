use Rattle.std.proofs.Common.{map}
use Rattle.plant_workers.specs.Refusing.{IsLeastOf}
use Rattle.plant_workers.proofs.thread_report.least_turn.Given as goal

abbrev pub invariant-loop-thread_report : goal.invariant-loop-thread_report
invariant-loop-thread_report l = IsLeastOf (map (λ thread_report. thread_report.refused) l.thread_reports) l.thread_report-index l.least
