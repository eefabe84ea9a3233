use Rattle.std.proofs.Common.{◌≡◌, ◌≤◌, ◌++◌, take, drop, length, Some}
use Rattle.plant_workers.proofs.AuditLemmas.Common.{slice_get, RowFields, actions_of, own_steps}
use Rattle.plant_workers.proofs.audit.following.first_difference.Given as goal

abbrev pub invariant-loop-step : goal.invariant-loop-step
invariant-loop-step l = record {
  within : l.place ≤ length l.history;
  followed : (row : RowFields) → slice_get l.plant.rows l.op ≡ Some row
      → own_steps row l.op l.steps ≡ take l.place (actions_of l.history) ++ own_steps row l.op (drop l.step-index l.steps);
}
