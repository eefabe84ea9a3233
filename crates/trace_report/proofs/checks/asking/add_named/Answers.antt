use Rattle.std.proofs.Common.{sym, ◌∙◌}
use Rattle.trace_report.proofs.ChecksLemmas.Common.{said_by, subject_of, is_named_in}
use Rattle.trace_report.proofs.ChecksLemmas.ListLemmas.{one_kept, one_left}
use Rattle.trace_report.proofs.checks.asking.add_named.Goals as goal
use Rattle.trace_report.proofs.checks.asking.add_named.Goals.{then-names+in_ok-push, else-names}

pub loop-sfid-preserved : goal.loop-sfid-preserved
loop-sfid-preserved c =
    let named = is_named_in (said_by c.args.request.now) in
    let kept = one_kept subject_of named c.args.flows.now c.loop-sfid.sfid-index c.loop-sfid-item.result c.loop-sfid-test.true c.loop-sfid-item.is c.args.subjects.now.items c.loop-sfid.subjects.items c.loop-sfid.invariant in
    let left = one_left subject_of named c.args.flows.now c.loop-sfid.sfid-index c.loop-sfid-item.result c.loop-sfid-test.true c.loop-sfid-item.is c.args.subjects.now.items c.loop-sfid.subjects.items c.loop-sfid.invariant in
    elim c.if-names.branch [
      | then-names+in_ok-push w ↦ rw (w.subjects-is, w.in_ok-push.ensures.items) (kept (sym c.names.ensures ∙ w.if-names.true))
      | else-names w ↦ rw w.subjects-is (left (sym c.names.ensures ∙ w.if-names.false))
    ]
