use Rattle.operator_book.proofs.Common.{Operator, at_drop_more, all_granted}
use Rattle.std.proofs.Common.{ℕ, ◌+◌, List, drop, ap, sym, ◌∙◌}
use Rattle.operator_book.proofs.machine.MachineState.grant_all.Goals as goal

abbrev after : ℕ → List (ℕ × ℕ) → Operator → Operator
after frame grants m = record m { state = record m.state { flows = all_granted frame grants m.state.flows } }

pub loop-granted-preserved : goal.loop-granted-preserved
loop-granted-preserved c =
    ap (after c.args.frame (drop (c.loop-granted.granted-index + 1) c.args.grants.now)) c.grant.ensures
    ∙ sym (at_drop_more (λ (grants : List (ℕ × ℕ)). after c.args.frame grants c.loop-granted.self) c.args.grants.now c.loop-granted.granted-index (0, 0) c.loop-granted-test.true)
    ∙ c.loop-granted.invariant
