-- What one step puts out stands under an operator of the plant, or is a MAP.
use Rattle.std.proofs.Common.{◌≡◌, ℕ, ◌<◌, List, [], ◌∷◌, Option, Some, None, sym, subst}
use Rattle.run_model.proofs.Common.{All, AllByRecursion, All-from_recursion, All-nil, Output, MapBytes, Out, outputs_under, IsUnder, told_map}

all_under : (count k : ℕ) (outputs : List Output) → k < count → AllByRecursion (IsUnder count) (outputs_under k outputs)
all_under count k [] within = tt
all_under count k (output ∷ outputs) within = (within, all_under count k outputs within)

pub own_under : (count k : ℕ) (outputs : List Output) (now : List Out) → k < count → now ≡ outputs_under k outputs → All (IsUnder count) now
own_under count k outputs now within e =
    subst (λ (outs : List Out). All (IsUnder count) outs) (sym e) (All-from_recursion (IsUnder count) (outputs_under k outputs) (all_under count k outputs within))

map_under : (count : ℕ) (made : Option MapBytes) → All (IsUnder count) (told_map made)
map_under count None = All-nil (IsUnder count)
map_under count (Some made) = All-from_recursion (IsUnder count) (told_map (Some made)) (tt, tt)

pub told_under : (count : ℕ) (made : Option MapBytes) (now : List Out) → now ≡ told_map made → All (IsUnder count) now
told_under count made now e = subst (λ (outs : List Out). All (IsUnder count) outs) (sym e) (map_under count made)
