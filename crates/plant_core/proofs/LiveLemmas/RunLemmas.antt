-- What a step puts out where nothing was there before.
use Rattle.std.proofs.Common.{◌≡◌, List, [], ◌∷◌, ◌++◌, sym, ap, subst, ◌∙◌}
use Rattle.plant_core.proofs.LiveLemmas.Common.{PlantFields, IsPlant, Step, Out, CoreView, Steps, Start, Performs, IsAfterFrom}
use Rattle.plant_core.proofs.LiveLemmas.GoLemmas.{after_more}

all_now : (none now all : List Out) → all ≡ none ++ now → none ≡ [] → now ≡ all
all_now none now all are empty = sym (are ∙ ap (λ (os : List Out). os ++ now) empty)

pub step_same : (step : Step) (none now all : List Out) (old new : CoreView) → Performs (Steps step) old new now → all ≡ none ++ now → none ≡ [] → Performs (Steps step) old new all
step_same step none now all old new performs are empty = subst (λ (os : List Out). Performs (Steps step) old new os) (all_now none now all are empty) performs

pub step_more : (plant : PlantFields) (start : Start) (before : List Step) (told : List Out) (step : Step) (none now all : List Out) (old new : CoreView) → IsPlant plant → Performs (Steps step) old new now → all ≡ none ++ now → none ≡ []
    → IsAfterFrom plant start before told old → IsAfterFrom plant start (before ++ step ∷ []) (told ++ all) new
step_more plant start before told step none now all old new valid performs are empty after =
    after_more plant start before told step old new all valid (step_same step none now all old new performs are empty) after
