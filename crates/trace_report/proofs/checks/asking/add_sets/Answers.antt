use Rattle.std.proofs.Common.{sym, ◌∙◌}
use Rattle.trace_report.specs.checks.Asking.{set_given, gives_for}
use Rattle.trace_report.proofs.ChecksLemmas.ListLemmas.{one_kept, one_left}
use Rattle.trace_report.proofs.checks.asking.add_sets.Goals as goal
use Rattle.trace_report.proofs.checks.asking.add_sets.Goals.{then-gives_for+in_ok-push, else-gives_for}

pub loop-encoding-preserved : goal.loop-encoding-preserved
loop-encoding-preserved c =
    let given = set_given c.args.consts.now in
    let gives = gives_for c.args.for_use c.args.consts.now in
    let kept = one_kept given gives c.args.encodings.now c.loop-encoding.encoding-index c.encoding-item.result c.loop-encoding-test.true c.encoding-item.is c.args.sets.now.items c.loop-encoding.sets.items c.loop-encoding.invariant in
    let left = one_left given gives c.args.encodings.now c.loop-encoding.encoding-index c.encoding-item.result c.loop-encoding-test.true c.encoding-item.is c.args.sets.now.items c.loop-encoding.sets.items c.loop-encoding.invariant in
    elim c.if-gives_for.branch [
      | then-gives_for+in_ok-push w ↦ rw (w.sets-is, w.in_ok-push.ensures.items, w.set_given.ensures) (kept (sym c.gives_for.ensures ∙ w.if-gives_for.true))
      | else-gives_for w ↦ rw w.sets-is (left (sym c.gives_for.ensures ∙ w.if-gives_for.false))
    ]
