use Rattle.std.proofs.Common.{◌≡◌, ℕ, ◌<◌, ◌≤◌, ◌+◌, take}
use Rattle.plant_workers.proofs.PlanLemmas.Common.{ticks_of, IsSpentAt}
use Rattle.plant_workers.proofs.plan.spending.spent_of.Given as goal

abbrev pub invariant-loop-at : goal.invariant-loop-at
invariant-loop-at l = record {
  counted : l.ticks ≡ ticks_of l.op (take l.at l.steps);
  allowed : l.first_frame + l.ticks ≤ 4294967295;
  before : (i : ℕ) → i < l.at → IsSpentAt l.first_frame l.op l.steps i → ⊥;
}
