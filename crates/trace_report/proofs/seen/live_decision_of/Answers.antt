use Rattle.std.proofs.Common.{◌∙◌, ap, sym, option_map}
use Rattle.plant_core.specs.live.DeskView.{book_of}
use Rattle.plant_core.specs.live.LiveView.{live_view}
use Rattle.trace_report.proofs.DecisionLemmas.{no_work, nobody_works, one_works}
use Rattle.trace_report.proofs.seen.live_decision_of.Goals as goal

pub returns-in_default-clause-decision : goal.returns-in_default-clause-decision
returns-in_default-clause-decision c = rw c.without_decision.ensures (no_work (live_view c.args.core.now) c.args.step.now c.in_default.not-Work)

pub returns-in-None-clause-decision : goal.returns-in-None-clause-decision
returns-in-None-clause-decision c =
    rw c.without_decision-in-None.ensures
    (nobody_works (live_view c.args.core.now) c.in-Work.op c.args.step.now c.in-Work.is
    (sym c.machine.ensures ∙ ap (option_map (λ machine. book_of machine.now.sound)) c.in-None.is))

pub returns-in_ok-operator_snapshot-in-Some-clause-decision : goal.returns-in_ok-operator_snapshot-in-Some-clause-decision
returns-in_ok-operator_snapshot-in-Some-clause-decision c =
    one_works (live_view c.args.core.now) c.in-Work.op c.args.step.now c.in-Work.is
    _ _ c.report_at.result (sym c.machine.ensures ∙ ap (option_map (λ machine. book_of machine.now.sound)) c.in-Some.is)
    c.in_ok-operator_snapshot-in-Some.ensures c.report_at.ensures
