-- A run is carried step by step.
use Rattle.std.proofs.Common.{◌≡◌, ℕ, ◌+◌, ◌<◌, List, [], ◌∷◌, ◌++◌, length, take, get_or, append_assoc, append-nil, sym, ap, ◌∙◌, subst}
use Rattle.run_model.proofs.Common.{take_more, PlantFields, IsPlant, Step, Out, CoreView, IsStateAfterFrom, opened_core, Start, first_start, IsStateAfter}
use Rattle.run_model.specs.Run.{IsRun}
use Rattle.run_model.proofs.Opening.{opened_reached}
use Rattle.run_model.proofs.OneStep.{step_from}

-- ---- over a list that is gone through: before it, by one more, behind it

same_run : (plant : PlantFields) (start : Start) (steps others : List Step) (outs more : List Out) (core : CoreView) → steps ≡ others → outs ≡ more → IsStateAfterFrom plant start steps outs core → IsStateAfterFrom plant start others more core
same_run plant start steps others outs more core p q reached = subst (λ (o : List Out). IsStateAfterFrom plant start others o core) q (subst (λ (s : List Step). IsStateAfterFrom plant start s outs core) p reached)

pub more_from : (plant : PlantFields) (start : Start) (before all : List Step) (at : ℕ) (step : Step) (outs made now : List Out) (core : CoreView) → at < length all → step ≡ get_or all at step
    → IsStateAfterFrom plant start ((before ++ take at all) ++ step ∷ []) ((outs ++ made) ++ now) core → IsStateAfterFrom plant start (before ++ take (at + 1) all) (outs ++ (made ++ now)) core
more_from plant start before all at step outs made now core within is reached =
    same_run plant start ((before ++ take at all) ++ step ∷ []) (before ++ take (at + 1) all) ((outs ++ made) ++ now) (outs ++ (made ++ now)) core
    (append_assoc before (take at all) (step ∷ []) ∙ ap (λ (s : List Step). before ++ s) (ap (λ (s : Step). take at all ++ s ∷ []) is ∙ sym (take_more all at step within)))
    (append_assoc outs made now) reached

-- ---- over a whole run

run_reached : (plant : PlantFields) (start : Start) (before later : List Step) (outs more : List Out) (old new : CoreView) → IsPlant plant → IsStateAfterFrom plant start before outs old → IsRun later old new more → IsStateAfterFrom plant start (before ++ later) (outs ++ more) new
run_reached plant start before [] outs more old new is reached run =
    same_run plant start before (before ++ []) outs (outs ++ more) new (sym (append-nil before)) (sym (append-nil outs) ∙ ap (λ (o : List Out). outs ++ o) (sym run.1))
    (subst (IsStateAfterFrom plant start before outs) (sym run.0) reached)
run_reached plant start before (step ∷ later) outs more old new is reached run =
    same_run plant start ((before ++ step ∷ []) ++ later) (before ++ step ∷ later) ((outs ++ run.1) ++ run.2) (outs ++ more) new
    (append_assoc before (step ∷ []) later) (append_assoc outs run.1 run.2 ∙ ap (λ (o : List Out). outs ++ o) (sym run.6))
    (run_reached plant start (before ++ step ∷ []) later (outs ++ run.1) run.2 run.0 new is (step_from plant start before outs step old run.0 run.1 is reached run.3 run.4) run.5)

-- ---- from the opened plant

pub reached_more : (plant : PlantFields) (before all : List Step) (at : ℕ) (step : Step) (outs made now : List Out) (core : CoreView) → at < length all → step ≡ get_or all at step
    → IsStateAfter plant ((before ++ take at all) ++ step ∷ []) ((outs ++ made) ++ now) core → IsStateAfter plant (before ++ take (at + 1) all) (outs ++ (made ++ now)) core
reached_more plant = more_from plant (first_start plant)

pub opened_run : (plant : PlantFields) (all : List Step) (outs : List Out) (core : CoreView) → IsPlant plant → IsRun all (opened_core plant) core outs → IsStateAfter plant all outs core
opened_run plant all outs core is run = run_reached plant (first_start plant) [] all [] outs (opened_core plant) core is (opened_reached plant is) run
