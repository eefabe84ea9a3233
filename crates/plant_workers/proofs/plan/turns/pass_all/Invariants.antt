use Rattle.plant_workers.proofs.PlanLemmas.Turned.{HavePassed}
use Rattle.plant_workers.proofs.plan.turns.pass_all.Given as goal

abbrev pub invariant-loop-op : goal.invariant-loop-op
invariant-loop-op l = HavePassed l.plant l.steps l.at l.op l.courses
