use Rattle.std.proofs.Common.{ℕ, ◌+◌, List, length, drop, sym, subst, arith}
use Rattle.plant_workers.proofs.PlanLemmas.Common.{take_at, Course}
use Rattle.plant_workers.proofs.PlanLemmas.Turned.{HaveTurns, turn_more}
use Rattle.plant_workers.proofs.plan.turns.turns_of.Goals as goal

pub loop-at-preserved : goal.loop-at-preserved
loop-at-preserved c =
    let new = c.next_turn.new.courses in
    subst (λ (cs : List Course). HaveTurns c.args.plant.now c.args.steps.now (c.loop-at.at + 1) cs c.push.new.self.items)
    (sym (take_at new (drop (length new) c.loop-at.courses.items) c.loop-at.courses.len (omega (arith, c.next_turn.auto.courses, c.as_mut_slice.ensures.len))))
    (subst (λ (ts : List ℕ). HaveTurns c.args.plant.now c.args.steps.now (c.loop-at.at + 1) new ts) (sym c.in_ok-push.ensures.items)
    (turn_more c.args.plant.now c.args.steps.now c.loop-at.at c.loop-at.courses.items new c.loop-at.turns.items c.in_ok-turn.turn c.loop-at-test.true c.loop-at.invariant
    c.in_ok-turn.ensures.courses (λ step here. c.in_ok-turn.ensures.turn step here)))
