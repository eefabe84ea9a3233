use Rattle.std.proofs.Common.{◌≡◌, ℕ, ◌<◌, get_or, false}
use Rattle.plant_workers.proofs.PlanLemmas.Common.{Step, is_reslice}
use Rattle.plant_workers.proofs.plan.spending.before_reslice.Given as goal

abbrev pub invariant-loop-at : goal.invariant-loop-at
invariant-loop-at l = (k : ℕ) (step : Step) → k < l.at → is_reslice (get_or l.steps k step) ≡ false
