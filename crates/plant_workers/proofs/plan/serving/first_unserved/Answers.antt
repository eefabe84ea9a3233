use Rattle.std.proofs.Common.{List, [], length, take, replicate, sym, subst}
use Rattle.plant_workers.proofs.PlanLemmas.Common.{RowFields, AreWaiting}
use Rattle.plant_workers.proofs.PlanLemmas.Firsts.{served_iff, first_iff}
use Rattle.plant_workers.proofs.PlanLemmas.Waiting.{none_waits}
use Rattle.plant_workers.proofs.plan.serving.first_unserved.Goals as goal

pub walk-requires : goal.walk-requires
walk-requires c =
    subst (λ (rows : List RowFields). AreWaiting (length c.args.plant.now.rows) [] (take (length rows) (replicate 32 0))) (sym c.rows-operators.ensures.value)
    (none_waits 32 (length c.args.plant.now.rows) c.rows-operators.ensures.valid.few)

pub returns-clause-served : goal.returns-clause-served
returns-clause-served c = served_iff c.args.plant.now c.args.steps.now c.walk.result c.walk.ensures.served c.walk.ensures.first

pub returns-clause-first : goal.returns-clause-first
returns-clause-first c = first_iff c.args.plant.now c.args.steps.now c.walk.result c.walk.ensures.served c.walk.ensures.first
