use Rattle.std.proofs.Common.{rules, ◌∙◌}
use Rattle.plant_passes.proofs.Moves.{looks}
use Rattle.plant_passes.proofs.Again.{waits_on, looks_on, mine_now}
use Rattle.plant_passes.proofs.turns.wait_turn.Goals as goal

pub load-now-requires : goal.load-now-requires
load-now-requires g c = (search rules, search rules, looks _ _ _ _ _ (search rules) c.loop.invariant.1.holds_book)

pub returns-then-now-ticket-clause-turn : goal.returns-then-now-ticket-clause-turn
returns-then-now-ticket-clause-turn g c = mine_now _ c.load-now.result _ _ c.loop.invariant.1 c.load-now.ensures.2.1 (search rules) (search rules)

pub returns-then-now-clause-looks : goal.returns-then-now-clause-looks
returns-then-now-clause-looks g c = looks_on _ _ _ c.loop.invariant.2 c.load-now.ensures.2.0

pub returns-then-now-ticket-clause-looks : goal.returns-then-now-ticket-clause-looks
returns-then-now-ticket-clause-looks g c = looks_on _ _ _ c.loop.invariant.2 c.load-now.ensures.2.0

pub loop-preserved : goal.loop-preserved
loop-preserved g c =
    let i = c.loop.invariant in
    let on = waits_on _ c.load-now.result _ _ _ i.1 i.2 c.load-now.ensures.2.0 c.load-now.ensures.2.1 (search rules) (search rules) in
    ((c.load-now.ensures.0 ∙ i.0.0, c.load-now.ensures.1 ∙ i.0.1), on.0, on.1)
