use Rattle.std.proofs.Common.{◌∙◌, ap, sym, ◌++◌, ◌∷◌, [], ℕ, List, take}
use Rattle.trace_report.proofs.ChecksLemmas.Common.{take_all, take_more, map-append, Flow, sfids_of}
use Rattle.trace_report.proofs.checks.operator_snapshot.sfids_in.Goals as goal

pub loop-sfid-preserved : goal.loop-sfid-preserved
loop-sfid-preserved c =
    let flows = c.args.flows.now in
    let i = c.loop-sfid.sfid-index in
    c.in_ok-push.ensures.items
    ∙ (ap (λ (sfids : List ℕ). sfids ++ c.loop-sfid-item.result.0 ∷ []) c.loop-sfid.invariant
    ∙ (ap (λ (entry : ℕ × Flow). sfids_of (take i flows) ++ entry.0 ∷ []) c.loop-sfid-item.is
    ∙ (sym (map-append (λ (entry : ℕ × Flow). entry.0) (take i flows) _) ∙ ap sfids_of (sym (take_more flows i c.loop-sfid-item.result c.loop-sfid-test.true)))))

pub returns : goal.returns
returns c = c.loop-sfid.invariant ∙ ap sfids_of (take_all c.loop-sfid.sfid-index c.args.flows.now c.loop-sfid-test.false)
