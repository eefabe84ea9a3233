use Rattle.std.proofs.Common.{length, take}
use Rattle.plant_workers.specs.plan.Serving.{AreServed, AreWaiting}
use Rattle.plant_workers.proofs.plan.serving.walk.Given as goal

abbrev pub invariant-loop-at : goal.invariant-loop-at
invariant-loop-at l = record {
  waiting : AreWaiting (length l.plant.rows) (take l.at l.steps) l.waiting;
  served : AreServed l.plant l.steps l.at;
}
