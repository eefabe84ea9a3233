-- The frames that are due, one after the other.
use Rattle.std.proofs.Common.{◌≡◌, ℕ, zero, suc, ◌+◌, ◌<◌, ◌≤◌, List, [], ◌∷◌, length, take, drop, Option, Some, None, refl, sym, ap, ◌∙◌, arith}
use Rattle.plant_workers.proofs.AuditLemmas.Common.{slice_get, MatchOption, drop-drop, slice_get_past}

get_take : {A : Type 0} (xs : List A) (k n : ℕ) → k < n → slice_get (take n xs) k ≡ slice_get xs k
get_take xs k zero lt = absurd (omega (arith, lt))
get_take [] k (suc n) lt = refl
get_take (x ∷ xs) zero (suc n) lt = refl
get_take (x ∷ xs) (suc k) (suc n) lt = get_take xs k n (omega (arith, lt))

get_drop : {A : Type 0} (xs : List A) (n : ℕ) → slice_get xs n ≡ slice_get (drop n xs) 0
get_drop xs zero = refl
get_drop [] (suc n) = refl
get_drop (x ∷ xs) (suc n) = get_drop xs n

take_short : {A : Type 0} (xs : List A) (n : ℕ) → length (take n xs) ≤ n
take_short xs zero = omega arith
take_short [] (suc n) = omega arith
take_short (x ∷ xs) (suc n) = let rest : length (take n xs) ≤ n = take_short xs n in omega (arith, rest)

module _ {A : Type 0} (xs waiting : List A) (due given : ℕ) where
  -- no more than so many are due
  pub none_due : due ≤ given → slice_get (take due xs) given ≡ None
  none_due le = let short : length (take due xs) ≤ due = take_short xs due in slice_get_past (take due xs) given (omega (arith, short, le))

  module _ (lt : given < due) (left : waiting ≡ drop given xs) where
    -- no more are there
    pub none_left : waiting ≡ [] → slice_get (take due xs) given ≡ None
    none_left none = get_take xs given due lt ∙ (get_drop xs given ∙ ap (λ (zs : List A). slice_get zs 0) (sym left ∙ none))

    -- one is there
    pub one_due : (x : A) (rest : List A) → waiting ≡ x ∷ rest → slice_get (take due xs) given ≡ Some x
    one_due x rest e = get_take xs given due lt ∙ (get_drop xs given ∙ ap (λ (zs : List A). slice_get zs 0) (sym left ∙ e))

    pub rest_left : (x : A) (rest : List A) → waiting ≡ x ∷ rest → rest ≡ drop (given + 1) xs
    rest_left x rest e = sym (ap (λ (zs : List A). drop 1 zs) (sym left ∙ e)) ∙ drop-drop 1 given xs

    pub next_is : {X : Type 0} (o : Option X) (f : X → A) (w : X → List A) → MatchOption o (waiting ≡ []) (λ x. waiting ≡ f x ∷ w x)
        → MatchOption o (slice_get (take due xs) given ≡ None) (λ x. (slice_get (take due xs) given ≡ Some (f x)) × (w x ≡ drop (given + 1) xs))
    next_is None f w h = none_left h
    next_is (Some x) f w h = (one_due (f x) (w x) h, rest_left (f x) (w x) h)

pub past_end : {A : Type 0} (xs : List A) (n : ℕ) → slice_get xs n ≡ None → length xs ≤ n
past_end [] n e = omega arith
past_end (x ∷ xs) zero e = cc
past_end (x ∷ xs) (suc n) e = let rest : length xs ≤ n = past_end xs n e in omega (arith, rest)
