use Rattle.std.proofs.Common.{◌+◌, List, map, Option, sym, ap, ◌∙◌, subst, arith}
use Rattle.plant_workers.proofs.Common.{length-map, map_there, EarlyEnd, ThreadReport, lesser_turn, IsLeastOf}
use Rattle.plant_workers.proofs.LeastLemmas.{least_more, least_end}
use Rattle.plant_workers.proofs.thread_report.least_turn.Goals as goal

pub loop-thread_report-preserved : goal.loop-thread_report-preserved
loop-thread_report-preserved c =
    let refused : List (Option EarlyEnd) = map (λ (thread_report : ThreadReport). thread_report.refused) c.args.thread_reports.now in
    subst (IsLeastOf refused (c.loop-thread_report.thread_report-index + 1)) (sym (c.lesser_turn-least.ensures ∙ ap (lesser_turn c.loop-thread_report.least) c.own_turn.ensures))
    (least_more refused c.loop-thread_report.thread_report-index c.thread_report-item.result.refused
    (map_there (λ (thread_report : ThreadReport). thread_report.refused) c.args.thread_reports.now c.loop-thread_report.thread_report-index c.thread_report-item.result c.loop-thread_report-test.true c.thread_report-item.is)
    c.loop-thread_report.least c.loop-thread_report.invariant)

pub returns : goal.returns
returns c =
    let refused : List (Option EarlyEnd) = map (λ (thread_report : ThreadReport). thread_report.refused) c.args.thread_reports.now in
    let long = length-map c.args.thread_reports.now (λ (thread_report : ThreadReport). thread_report.refused) in
    least_end refused c.loop-thread_report.thread_report-index c.loop-thread_report.least (omega (arith, long, c.loop-thread_report-test.false, c.loop-thread_report.auto.thread_report-index-end)) c.loop-thread_report.invariant
