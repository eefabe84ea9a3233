-- A run is one of one step more, of whatever kind it is.
use Rattle.std.proofs.Common.{◌≡◌, List, [], ◌∷◌, ◌++◌, Some, refl, sym, ap, ◌∙◌}
use Rattle.run_model.proofs.Common.{PlantFields, IsPlant, holder, IsGathering, Step, Out, action_at, CoreView, IsStateAfterFrom, Steps, Start, first_start, IsStateAfter}
use Rattle.operator_model.specs.declared.action.Action.TheVariants as actions
use Rattle.run_model.specs.declared.step.Step.TheVariants as steps
use Rattle.run_model.proofs.OwnActions.{arrive_at, work_at, tick_at}
use Rattle.run_model.proofs.Plain.{acts_reached, reslices_reached}
use Rattle.run_model.proofs.Collecting.{collects_reached}

pub step_from : (plant : PlantFields) (start : Start) (before : List Step) (outs : List Out) (step : Step) (old new : CoreView) (now : List Out) → IsPlant plant → IsStateAfterFrom plant start before outs old → IsGathering old.gathering → Steps step old new now
    → IsStateAfterFrom plant start (before ++ step ∷ []) (outs ++ now) new
step_from plant start before outs (steps.Arrive modem heard) old new now is reached gathered goes =
    let held : holder plant.rows modem ≡ Some goes.0 = ap (λ (p : PlantFields). holder p.rows modem) (sym reached.plant_is) ∙ goes.1 in
    acts_reached plant start before outs (steps.Arrive modem heard) now old new reached (λ i. refl) goes.0 (actions.Arrive modem heard) refl
    (arrive_at plant modem heard goes.0 is held) (ap (λ o. action_at o (actions.Arrive modem heard)) held) goes.2
step_from plant start before outs (steps.Work op) old new now is reached gathered acts =
    acts_reached plant start before outs (steps.Work op) now old new reached (λ i. refl) op actions.Work refl (work_at plant op) refl acts
step_from plant start before outs (steps.Tick op) old new now is reached gathered acts =
    acts_reached plant start before outs (steps.Tick op) now old new reached (λ i. refl) op actions.Tick refl (tick_at plant op) refl acts
step_from plant start before outs (steps.Collect op) old new now is reached gathered collects =
    collects_reached plant start before outs op now old new reached gathered collects
step_from plant start before outs (steps.Reslice from rows) old new now is reached gathered reslices =
    reslices_reached plant start before outs from rows now old new reached reslices

-- from the opened plant
pub step_reached : (plant : PlantFields) (before : List Step) (outs : List Out) (step : Step) (old new : CoreView) (now : List Out) → IsPlant plant → IsStateAfter plant before outs old → IsGathering old.gathering → Steps step old new now
    → IsStateAfter plant (before ++ step ∷ []) (outs ++ now) new
step_reached plant = step_from plant (first_start plant)
