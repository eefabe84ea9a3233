use Rattle.std.proofs.Common.{◌∙◌}
use Rattle.std.proofs.lemmas.Result.{IfOk-weaker, on_err_weaker}
use Rattle.plant_core.specs.live.LiveView.{live_view}
use Rattle.plant_core.proofs.LiveLemmas.FaultLemmas.{same_step_fault}
use Rattle.trace_report.proofs.Common.{core_view, IsDecision}
use Rattle.trace_report.proofs.DecisionLemmas.{same_decision}
use Rattle.trace_report.proofs.seen.decision_of.Goals as goal

pub returns-clause-decision : goal.returns-clause-decision
returns-clause-decision g c =
    let live = live_view c.live.result.now in
    let core = core_view c.args.core.now in
    IfOk-weaker c.live_decision_of.result (λ seen. IsDecision live c.args.step.now seen.decision) (λ seen. IsDecision core c.args.step.now seen.decision)
    (λ seen decided. same_decision live core c.args.step.now seen.decision c.live.ensures decided) c.live_decision_of.ensures.decision

pub returns-clause-memory : goal.returns-clause-memory
returns-clause-memory g c =
    on_err_weaker c.live_decision_of.result
    (λ none. same_step_fault (live_view c.live.result.now) (core_view c.args.core.now) c.args.step.now c.live.ensures ∙ none) c.live_decision_of.ensures.memory
