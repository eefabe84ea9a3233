use Rattle.std.proofs.Common.{◌∙◌, sym, ap, Some}
use Rattle.plant_restart.proofs.NameLemmas.{saved_here, saved_past}
use Rattle.plant_restart.proofs.restarting.state_under.Goals as goal

pub returns-then-is_same_name : goal.returns-then-is_same_name
returns-then-is_same_name c =
    let at = c.loop-saved in
    ap Some c.in_ok-state.ensures
    ∙ sym (at.invariant ∙ saved_here c.args.frame c.args.operators.now c.args.name at.saved-index c.saved-item.result c.loop-saved-test.true c.saved-item.is (c.is_same_name.ensures.0 c.if-is_same_name.true))

pub loop-saved-preserved : goal.loop-saved-preserved
loop-saved-preserved c =
    let at = c.loop-saved in
    at.invariant
    ∙ saved_past c.args.frame c.args.operators.now c.args.name at.saved-index c.saved-item.result c.loop-saved-test.true c.saved-item.is
    (λ same. let yes = c.is_same_name.ensures.1 same in let no = c.if-is_same_name.false in cc)
