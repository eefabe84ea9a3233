-- The outputs of one step more stand behind the others.
use Rattle.std.proofs.Common.{List, [], ◌∷◌, ◌++◌, append_assoc, append-nil, refl, sym, ap, ◌∙◌, subst}
use Rattle.run_model.proofs.Common.{PlantFields, Step, Out, target, IsToldFrom, AreInOrderFrom, OrderedFrom, Start}

in_order_push : (plant : PlantFields) (start : Start) (before later : List Step) (all : List Out) (step : Step) (now : List Out) → AreInOrderFrom plant start before later all
    → IsToldFrom plant start (before ++ later) step (target plant step) now → AreInOrderFrom plant start before (later ++ step ∷ []) (all ++ now)
in_order_push plant start before [] all step now is told =
    (now, [], ap (λ (os : List Out). os ++ now) is ∙ sym (append-nil now), subst (λ (s : List Step). IsToldFrom plant start s step (target plant step) now) (append-nil before) told, refl)
in_order_push plant start before (first ∷ later) all step now is told = (
  is.0,
  is.1 ++ now,
  ap (λ (os : List Out). os ++ now) is.2 ∙ append_assoc is.0 is.1 now,
  is.3,
  in_order_push plant start (before ++ first ∷ []) later is.1 step now is.4 (subst (λ (s : List Step). IsToldFrom plant start s step (target plant step) now) (sym (append_assoc before (first ∷ []) later)) told),
)

pub ordered_push : (plant : PlantFields) (start : Start) (before : List Step) (outs : List Out) (step : Step) (now : List Out) → OrderedFrom plant start before outs → IsToldFrom plant start before step (target plant step) now
    → OrderedFrom plant start (before ++ step ∷ []) (outs ++ now)
ordered_push plant start before outs step now is told = in_order_push plant start [] before outs step now is told
