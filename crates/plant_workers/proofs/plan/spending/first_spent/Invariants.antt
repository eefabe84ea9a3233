use Rattle.plant_workers.proofs.PlanLemmas.Spent.{IsLeastOf}
use Rattle.plant_workers.proofs.plan.spending.first_spent.Given as goal

abbrev pub invariant-loop-op : goal.invariant-loop-op
invariant-loop-op l = IsLeastOf l.first_frame l.steps l.op l.least
