-- A run, step by step.
use Rattle.std.proofs.Common.{◌≡◌, ℕ, ◌+◌, ◌<◌, List, [], ◌∷◌, ◌++◌, length, take, get_or, Err, Some, refl, sym, ap, subst, ◌∙◌}
use Rattle.plant_core.proofs.Common.{slice_get, slice_get_read, PlantFields, IsPlant, IsGathering, Step, Out, CoreView, IsStateAfter, Steps, step_fault, IsReported}
use Rattle.run_model.proofs.OneStep.{step_reached}
use Rattle.run_model.proofs.Runs.{reached_more}
use Rattle.plant_core.specs.declared.live.core_fault.CoreFault.{CoreFault}

pub step_more : (plant : PlantFields) (before : List Step) (step : Step) (told made now outs : List Out) (old new : CoreView) → IsPlant plant → IsGathering old.gathering
    → Steps step old new now → outs ≡ made ++ now → made ≡ [] → IsStateAfter plant before told old → IsStateAfter plant (before ++ step ∷ []) (told ++ outs) new
step_more plant before step told made now outs old new valid gathering steps is none reached =
    subst (λ (os : List Out). IsStateAfter plant (before ++ step ∷ []) (told ++ os) new) (sym (is ∙ ap (λ (os : List Out). os ++ now) none))
    (step_reached plant before told step old new now valid reached gathering steps)

pub run_more : (plant : PlantFields) (before all : List Step) (at : ℕ) (step : Step) (told made now outs : List Out) (old new : CoreView) → IsPlant old.plant → IsGathering old.gathering
    → at < length all → step ≡ get_or all at step → Steps step old new now → outs ≡ made ++ now → IsStateAfter plant (before ++ take at all) (told ++ made) old
    → IsStateAfter plant (before ++ take (at + 1) all) (told ++ outs) new
run_more plant before all at step told made now outs old new valid gathering within is steps made_is reached =
    subst (λ (os : List Out). IsStateAfter plant (before ++ take (at + 1) all) (told ++ os) new) (sym made_is)
    (reached_more plant before all at step told made now new within is
    (step_reached plant (before ++ take at all) (told ++ made) step old new now (subst IsPlant reached.plant_is valid) reached gathering steps))

some_same : {X : Type 0} (x y : X) → Some x ≡ Some y → x ≡ y
some_same x y h = cc

-- why a run stopped
pub stop_told : (all : List Step) (at : ℕ) (step other : Step) (fault : CoreFault) (old new : CoreView) → at < length all → step ≡ get_or all at step → slice_get all at ≡ Some other
    → new ≡ old → IsReported {A = Unit {0}} (Err fault) (step_fault old step) → IsReported {A = Unit {0}} (Err fault) (step_fault new other)
stop_told all at step other fault old new within is there same told =
    let one : step ≡ other = some_same step other (sym (slice_get_read all (length all) at step refl within is) ∙ there) in
    subst (λ (core : CoreView). IsReported {A = Unit {0}} (Err fault) (step_fault core other)) (sym same)
    (subst (λ (s : Step). IsReported {A = Unit {0}} (Err fault) (step_fault old s)) one told)
