-- A step, and the action of one operator that it may be.
use Rattle.std.proofs.Common.{◌≡◌, ℕ, List, [], ◌∷◌, ◌++◌, Option, Some, None, sym, ap, subst, ◌∙◌}
use Rattle.plant_core.proofs.LiveLemmas.Common.{some_pair_parts, ∥∥₁_map, Modem, PlantFields, IsPlant, holder, Action, Heard, IsGathering, Step, Out, action_at, target, CoreView, IsStateAfter, Acts, Steps, step_reached, IsReachable, IsOfAStep}
use Rattle.operator_model.specs.declared.action.Action.TheVariants as actions
use Rattle.run_model.specs.declared.step.Step.TheVariants as steps

-- one step more
pub stepped : (step : Step) (old new : CoreView) (now : List Out) → IsPlant old.plant → IsGathering old.gathering → new.plant ≡ old.plant → Steps step old new now → ∥ IsReachable old ∥₁ → ∥ IsReachable new ∥₁
stepped step old new now valid is same steps reached = ∥∥₁_map reached (λ r. (
  r.0 ++ step ∷ [],
  r.1 ++ now,
  subst (λ (p : PlantFields). IsStateAfter p (r.0 ++ step ∷ []) (r.1 ++ now) new) (sym same) (step_reached old.plant r.0 r.1 step old new now valid r.2 is steps),
))

-- ---- an action of one operator

-- the place and the action that a step goes to
pub goes_to : (place : Option ℕ) (op : ℕ) (heard action : Action) → action_at place heard ≡ Some (op, action) → (place ≡ Some op) × (heard ≡ action)
goes_to None op heard action h = absurd (cc)
goes_to (Some i) op heard action h = let same = some_pair_parts i op heard action h in (ap (λ (k : ℕ). let place : Option ℕ = Some k in place) same.0, same.1)

-- the step does it
pub step_acts : (step : Step) (op : ℕ) (action : Action) (old new : CoreView) (now : List Out) → target old.plant step ≡ Some (op, action) → Acts op action old new now → Steps step old new now
step_acts (steps.Arrive modem heard) op action old new now goes acts =
    let goal = goes_to (holder old.plant.rows modem) op (actions.Arrive modem heard) action goes in
    (op, goal.0, subst (λ (a : Action). Acts op a old new now) (sym goal.1) acts)
step_acts (steps.Work i) op action old new now goes acts =
    let goal = some_pair_parts i op actions.Work action goes in
    subst (λ (k : ℕ). Acts k actions.Work old new now) (sym goal.0) (subst (λ (a : Action). Acts op a old new now) (sym goal.1) acts)
step_acts (steps.Tick i) op action old new now goes acts =
    let goal = some_pair_parts i op actions.Tick action goes in
    subst (λ (k : ℕ). Acts k actions.Tick old new now) (sym goal.0) (subst (λ (a : Action). Acts op a old new now) (sym goal.1) acts)
step_acts (steps.Collect i) op action old new now goes acts = absurd (cc)
step_acts (steps.Reslice from rows) op action old new now goes acts = absurd (cc)

-- what is heard of a modem goes to the operator that lists it
pub arrives : (new old : PlantFields) (modem : Modem) (heard : Heard) (op : ℕ) → new ≡ old → Some op ≡ holder old.rows modem → IsOfAStep new op (actions.Arrive modem heard)
arrives new old modem heard op same there =
    (steps.Arrive modem heard, ap (λ (p : PlantFields). action_at (holder p.rows modem) (actions.Arrive modem heard)) same ∙ ap (λ (o : Option ℕ). action_at o (actions.Arrive modem heard)) (sym there))
