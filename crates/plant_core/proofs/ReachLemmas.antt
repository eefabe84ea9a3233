-- A core stays reachable, whether a step was done or refused.
use Rattle.std.proofs.Common.{◌≡◌, List, ◌++◌, Result, Ok, Err, OnOk, OnErr, ap, sym, subst}
use Rattle.plant_core.proofs.Common.{IsPlant, IsGathering, Step, Out, CoreView, Steps, IsReachable, stepped}
use Rattle.run_model.specs.declared.step.Step.TheVariants as steps

-- a step keeps the plant
pub plant_kept : (step : Step) (old new : CoreView) (now : List Out) → Steps step old new now → new.plant ≡ old.plant
plant_kept (steps.Arrive modem heard) old new now did = ap (λ (core : CoreView). core.plant) did.2.new_is
plant_kept (steps.Work op) old new now did = ap (λ (core : CoreView). core.plant) did.new_is
plant_kept (steps.Tick op) old new now did = ap (λ (core : CoreView). core.plant) did.new_is
plant_kept (steps.Collect op) old new now did = ap (λ (core : CoreView). core.plant) did.new_is
plant_kept (steps.Reslice from rows) old new now did = did.plant_is

pub still_reachable : {A E : Type 0} (result : Result A E) (step : Step) (old new : CoreView) (outs outs' : List Out) → IsPlant old.plant → IsGathering old.gathering
    → OnOk result ((now : List Out) × (outs' ≡ outs ++ now) × Steps step old new now) → OnErr result (new ≡ old) → ∥ IsReachable old ∥₁ → ∥ IsReachable new ∥₁
still_reachable (Ok x) step old new outs outs' valid gathering done same reached =
    stepped step old new done.0 valid gathering (plant_kept step old new done.0 done.2) done.2 reached
still_reachable (Err y) step old new outs outs' valid gathering done same reached = subst (λ (core : CoreView). ∥ IsReachable core ∥₁) (sym same) reached
