use Rattle.std.proofs.Common.{◌≡◌, ◌+◌, List, ◌++◌, drop, sym, ap, ◌∙◌, append_assoc}
use Rattle.line_service.proofs.ScriptLemmas.Common.{LineStep, tick_steps, all_ticks}
use Rattle.line_service.proofs.ScriptLemmas.Scripts.{same_steps, ticks_at}
use Rattle.line_service.proofs.script.script.put_all_ticks.Goals as goal

pub loop-op-preserved : goal.loop-op-preserved
loop-op-preserved c =
    let number = c.args.number in
    let op = c.loop-op.op in
    let before = c.loop-op.steps.items in
    let others = all_ticks number (drop (op + 1) c.args.rows.now) (op + 1) in
    let new : before ++ tick_steps number op ≡ c.put_tick.new.steps.items = same_steps _ _ c.in_ok-put_tick.ensures.said in
    ap (λ (x : List LineStep). x ++ others) (sym new)
    ∙ append_assoc before (tick_steps number op) others
    ∙ ap (λ (x : List LineStep). before ++ x) (sym (ticks_at number c.args.rows.now op c.loop-op-test.true))
    ∙ c.loop-op.invariant
