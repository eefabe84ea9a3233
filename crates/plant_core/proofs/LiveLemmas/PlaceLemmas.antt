-- An element of a list, and the list with another in its place.
use Rattle.std.proofs.Common.{◌≡◌, ℕ, zero, suc, ◌<◌, List, [], ◌∷◌, map, length, get_or, slice_set, Some, option_map, refl, ap, ◌∙◌}
use Rattle.plant_core.proofs.LiveLemmas.Common.{slice_get, map-set, slice_get-map, slice_get_read}

pub set_same : {X : Type 0} (xs : List X) (i : ℕ) (x : X) → slice_get xs i ≡ Some x → slice_set xs i x ≡ xs
set_same [] i x h = refl
set_same (y ∷ ys) zero x h = let same : x ≡ y = cc in ap (λ z. z ∷ ys) same
set_same (y ∷ ys) (suc i) x h = ap (λ zs. y ∷ zs) (set_same ys i x h)

-- an element of a vector, seen through a map
pub seen_at : {X Y : Type 0} (f : X → Y) (xs : List X) (n i : ℕ) (x : X) → n ≡ length xs → i < n → x ≡ get_or xs i x → slice_get (map f xs) i ≡ Some (f x)
seen_at f xs n i x long lt is = slice_get-map f xs i ∙ ap (option_map f) (slice_get_read xs n i x long lt is)

-- one element is put in place of another that looks the same
pub set_alike : {X Y : Type 0} (f : X → Y) (xs : List X) (i : ℕ) (x : X) (y : Y) → slice_get (map f xs) i ≡ Some y → f x ≡ y → map f (slice_set xs i x) ≡ map f xs
set_alike f xs i x y there same =
    map-set f xs i x ∙ (ap (slice_set (map f xs) i) same ∙ set_same (map f xs) i y there)

pub set_seen : {X Y : Type 0} (f : X → Y) (xs : List X) (i : ℕ) (x : X) (y : Y) → f x ≡ y → map f (slice_set xs i x) ≡ slice_set (map f xs) i y
set_seen f xs i x y same = map-set f xs i x ∙ ap (slice_set (map f xs) i) same
