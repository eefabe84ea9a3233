use Rattle.std.proofs.Common.{is_some, sym, ◌∙◌}
use Rattle.plant_workers.specs.declared.thread_report.ThreadReport.{ThreadReport}
use Rattle.plant_workers.proofs.LeastLemmas.{any_of_map}
use Rattle.plant_workers.proofs.thread_report.is_any_refused.Goals as goal

pub returns : goal.returns
returns c = c.has_refused.ensures ∙ sym (any_of_map (λ (thread_report : ThreadReport). thread_report.refused) is_some c.args.thread_reports.now)
