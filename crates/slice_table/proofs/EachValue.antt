-- The items of an array one after the other, beside the loop over its values.
use Rattle.std.proofs.Common.{◌≡◌, ℕ, ◌+◌, ◌<◌, ◌≤◌, List, [], ◌∷◌, ◌++◌, length, get_or, drop, Ok, sym, ap, ◌∙◌}
use Rattle.slice_table.proofs.Common.{drop_all, drop_more, Data, view, items_view, Value, ◌>>=◌, PlantResult, each}

-- what is left at a value is what it is read as, and then the others
pub at_value : {A : Type 0} (read : List A → Data → PlantResult A) (values : List Value) (i : ℕ) (v : Value) (done : List A) (all : PlantResult (List A))
    → i < length values → v ≡ get_or values i v → each read done (items_view (drop i values)) ≡ all
    → (read done (view v) >>= λ x. each read (done ++ x ∷ []) (items_view (drop (i + 1) values))) ≡ all
at_value {A} read values i v done all within is left =
    let here : drop i values ≡ v ∷ drop (i + 1) values = drop_more values i v within ∙ ap (λ (w : Value). w ∷ drop (i + 1) values) (sym is) in
    ap (λ (vs : List Value). each read done (items_view vs)) (sym here) ∙ left

pub each_next : {A : Type 0} (read : List A → Data → PlantResult A) (values : List Value) (i : ℕ) (v : Value) (done : List A) (all : PlantResult (List A)) (x : A)
    → i < length values → v ≡ get_or values i v → each read done (items_view (drop i values)) ≡ all → read done (view v) ≡ Ok x
    → each read (done ++ x ∷ []) (items_view (drop (i + 1) values)) ≡ all
each_next {A} read values i v done all x within is left e =
    rw e at (at_value read values i v done all within is left)

pub each_end : {A : Type 0} (read : List A → Data → PlantResult A) (values : List Value) (i : ℕ) (done : List A) (all : PlantResult (List A))
    → length values ≤ i → each read done (items_view (drop i values)) ≡ all → all ≡ Ok done
each_end {A} read values i done all over left =
    sym left ∙ ap (λ (vs : List Value). each read done (items_view vs)) (drop_all i values over)
