use Rattle.std.proofs.Common.{◌≡◌, List, map, Option, None, sym, ◌∙◌, arith}
use Rattle.plant_workers.proofs.Common.{length-map, slice_get_within, map_there, EarlyEnd, ThreadReport, of_assembly}
use Rattle.plant_workers.proofs.LeastLemmas.{next}
use Rattle.plant_workers.proofs.thread_report.first_of_assembly.Goals as goal

pub returns-in-Some : goal.returns-in-Some
returns-in-Some c = record {
  place = c.loop-thread_report.thread_report-index;
  refusal = c.thread_report-item.result.refused;
  refusal_is = map_there (λ (thread_report : ThreadReport). thread_report.refused) c.args.thread_reports.now c.loop-thread_report.thread_report-index c.thread_report-item.result c.loop-thread_report-test.true c.thread_report-item.is;
  fault_is = sym c.of_assembly.ensures ∙ c.in-Some.is;
  first = c.loop-thread_report.invariant;
}

pub loop-thread_report-preserved : goal.loop-thread_report-preserved
loop-thread_report-preserved c =
    next (map (λ (thread_report : ThreadReport). thread_report.refused) c.args.thread_reports.now) c.loop-thread_report.thread_report-index c.thread_report-item.result.refused
    (map_there (λ (thread_report : ThreadReport). thread_report.refused) c.args.thread_reports.now c.loop-thread_report.thread_report-index c.thread_report-item.result c.loop-thread_report-test.true c.thread_report-item.is)
    (λ (refusal : Option EarlyEnd). of_assembly refusal ≡ None) c.loop-thread_report.invariant (sym c.of_assembly.ensures ∙ c.in_default.is)

pub returns : goal.returns
returns c i other there =
    let refused : List (Option EarlyEnd) = map (λ (thread_report : ThreadReport). thread_report.refused) c.args.thread_reports.now in
    let long = length-map c.args.thread_reports.now (λ (thread_report : ThreadReport). thread_report.refused) in
    let within = slice_get_within refused i other there in
    c.loop-thread_report.invariant i other (omega (arith, within, long, c.loop-thread_report-test.false, c.loop-thread_report.auto.thread_report-index-end)) there
