use Rattle.plant_workers.proofs.PlanLemmas.Turned.{HaveTurns}
use Rattle.plant_workers.proofs.plan.turns.turns_of.Given as goal

abbrev pub invariant-loop-at : goal.invariant-loop-at
invariant-loop-at l = HaveTurns l.plant l.steps l.at l.courses.items l.turns.items
