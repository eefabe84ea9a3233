-- Lists that a pass takes from, changes, or writes to at one place.
use Rattle.std.proofs.Common.{◌≡◌, ℕ, zero, suc, ◌+◌, ◌<◌, ◌≤◌, Bool, true, false, cond, List, [], ◌∷◌, ◌++◌, length, get_or, set, take, slice_get, nat_lt, map, filter, count_by, Option, Some, None, is_some, IsSome, IfSome, IfNone, Result, Ok, Err, OnErr, All, refl, sym, ap, ◌∙◌, subst, arith}
use Rattle.std.specs.List.Retain.{RetainsInTurn}
use Rattle.transactions.proofs.Common.{find, position, position_or_len, true≢false, ltb-false, append-nil, map-append, All-filter, filter_passes, filter_more, All-map, position-Some, sum_by-cons, sum_by_more_le, position_or_len_is}
use Rattle.std.proofs.lemmas.Option.{none-some, slice_get-get_or, slice_get_past}
use Rattle.std.proofs.lemmas.List.Folds.{find_at}

-- what one pass keeps and changes, where each call answers by a test and changes by a function
pub retained : {S X : Type 0} (R : S → X → Bool → S → X → Type 0) (state : S) (test : X → Bool) (change : X → X) → ((x : X) (b : Bool) (after : S) (y : X) → R state x b after y → (b ≡ test x) × (after ≡ state) × (y ≡ change x)) → (xs ys : List X) → RetainsInTurn R state xs ys → ys ≡ map change (filter test xs)
retained R state test change says [] ys h = h
retained {X = X} R state test change says (x ∷ xs) ys h =
    let said = says x h.0 h.1 h.2 h.3 in
    let rest = retained R state test change says xs h.4 (subst (λ t. RetainsInTurn R t xs h.4) said.1 h.5) in
    h.6 ∙ ((λ i. cond (said.0 i) (said.2 i ∷ rest i) (rest i)) ∙ whole (test x))
  where
    whole : (b : Bool) → cond b (change x ∷ map change (filter test xs)) (map change (filter test xs)) ≡ map change (cond b (x ∷ filter test xs) (filter test xs))
    whole true = refl
    whole false = refl

-- where one passes, a filter's image is not empty
pub told_there : {X Y : Type 0} (p : X → Bool) (f : X → Y) (xs : List X) (i : ℕ) (d : X) → i < length xs → p (get_or xs i d) ≡ true → map f (filter p xs) ≡ [] → ⊥
told_there p f [] i d lt passes none = absurd (omega arith)
told_there {X} {Y} p f (x ∷ xs) zero d lt passes none =
    let some : f x ∷ map f (filter p xs) ≡ [] = ap (λ (b : Bool). map f (cond b (x ∷ filter p xs) (filter p xs))) (sym passes) ∙ none in
    cc
told_there {X} {Y} p f (x ∷ xs) (suc i) d lt passes none =
    step (p x) none (told_there p f xs i d (omega arith) passes)
  where
    step : (b : Bool) → map f (cond b (x ∷ filter p xs) (filter p xs)) ≡ [] → (map f (filter p xs) ≡ [] → ⊥) → ⊥
    step true some rest = cc
    step false rest_none rest = rest rest_none

-- what is known of a failed call, whatever it returned
pub on_err : {T E : Type 0} {P : Type 0} (r : Result T E) → P → OnErr r P
on_err (Ok x) p = tt
on_err (Err y) p = p

-- one more element, and what a filter's image has then
module _ {X Y : Type 0} (p : X → Bool) (f : X → Y) (xs : List X) (i : ℕ) (x : X) (lt : i < length xs) (is : x ≡ get_or xs i x) (ys : List Y) (eq : ys ≡ map f (filter p (take i xs))) where
  more : (b : Bool) → p x ≡ b → ys ++ map f (cond b (x ∷ []) []) ≡ map f (filter p (take (i + 1) xs))
  more b here =
      ap (λ (zs : List Y). zs ++ map f (cond b (x ∷ []) [])) eq
      ∙ (ap (λ (c : Bool). map f (filter p (take i xs)) ++ map f (cond c (x ∷ []) [])) (sym here)
      ∙ (ap (λ (y : X). map f (filter p (take i xs)) ++ map f (cond (p y) (y ∷ []) [])) is
      ∙ (sym (map-append f (filter p (take i xs)) _) ∙ ap (map f) (sym (filter_more p xs i x lt)))))

  pub map-kept : p x ≡ true → ys ++ f x ∷ [] ≡ map f (filter p (take (i + 1) xs))
  map-kept here = more true here

  pub map-left : p x ≡ false → ys ≡ map f (filter p (take (i + 1) xs))
  map-left here = sym (append-nil ys) ∙ more false here

-- a fact that the change keeps of what passes
pub All-kept : {X : Type 0} (P : X → Type 0) (test : X → Bool) (change : X → X) → ((x : X) → P x → test x ≡ true → P (change x)) → (xs : List X) → All P xs → All P (map change (filter test xs))
All-kept P test change keeps xs all =
    All-map P change (filter test xs)
    (λ k d lt. keeps _ (All-filter test P xs all k d lt) (filter_passes test xs k d lt))

-- a count that neither the filter nor the change raises
pub count_by-kept : {X : Type 0} (p test : X → Bool) (change : X → X) → ((x : X) → p (change x) ≡ p x) → (xs : List X) → count_by p (map change (filter test xs)) ≤ count_by p xs
count_by-kept p test change same [] = omega arith
count_by-kept {X} p test change same (x ∷ xs) =
    let rest = count_by-kept p test change same xs in
    let all = sum_by-cons (λ y. cond (p y) 1 0) x xs in
    elim (test x) as (λ b. count_by p (map change (cond b (x ∷ filter test xs) (filter test xs))) ≤ count_by p (x ∷ xs)) [
      | true ↦
          let left = sum_by-cons (λ y. cond (p y) 1 0) (change x) (map change (filter test xs)) in
          let head : cond {A = ℕ} (p (change x)) 1 0 ≡ cond {A = ℕ} (p x) 1 0 = ap (λ (b : Bool). cond {A = ℕ} b 1 0) (same x) in
          omega (arith, left, head)
      | false ↦ omega arith
    ]

-- a count where each element that passes one test passes another
pub count_by-weaker : {X : Type 0} (p q : X → Bool) → ((x : X) → p x ≡ true → q x ≡ true) → (xs : List X) → count_by p xs ≤ count_by q xs
count_by-weaker p q weaker [] = omega arith
count_by-weaker p q weaker (x ∷ xs) =
    let rest = count_by-weaker p q weaker xs in
    let head : cond {A = ℕ} (p x) 1 0 ≤ cond {A = ℕ} (q x) 1 0 = step (p x) (q x) (weaker x) in
    omega (arith, head, sum_by-cons (λ y. cond (p y) 1 0) x xs, sum_by-cons (λ y. cond (q y) 1 0) x xs)
  where
    step : (a b : Bool) → (a ≡ true → b ≡ true) → cond {A = ℕ} a 1 0 ≤ cond {A = ℕ} b 1 0
    step false b h = omega arith
    step true true h = omega arith
    step true false h = absurd (true≢false (sym (h refl)))

module _ {X : Type 0} (p : X → Bool) where
  count_by-cons : (x : X) (xs : List X) → count_by p (x ∷ xs) ≡ cond {A = ℕ} (p x) 1 0 + count_by p xs
  count_by-cons x xs = sum_by-cons (λ y. cond (p y) 1 0) x xs

  -- none is found: none is counted
  pub count_by-none : (xs : List X) → find p xs ≡ None → count_by p xs ≡ 0
  count_by-none [] h = refl
  count_by-none (x ∷ xs) h = count_by-cons x xs ∙ step (p x) h (count_by-none xs)
    where
      step : (b : Bool) → cond b (Some x) (find p xs) ≡ None → (find p xs ≡ None → count_by p xs ≡ 0) → cond {A = ℕ} b 1 0 + count_by p xs ≡ 0
      step true h rest = absurd (none-some x (sym h))
      step false h rest = omega (arith, rest h)

  -- one is found at a place
  pub find-position : (xs : List X) (i : ℕ) (d : X) → position p xs ≡ Some i → find p xs ≡ Some (get_or xs i d)
  find-position xs i d h =
      let at = position-Some p xs i d h in
      let here : position_or_len p xs ≡ i = position_or_len_is p xs i d (omega arith) at.2 (λ _. at.1) in
      find_at p xs ∙ (ap (slice_get xs) here ∙ slice_get-get_or xs i d at.0)

  -- none is found at any place
  pub find-no_position : (xs : List X) → position p xs ≡ None → find p xs ≡ None
  find-no_position xs h =
      find_at p xs ∙ slice_get_past xs (position_or_len p xs) (ltb-false _ _ (past (nat_lt (position_or_len p xs) (length xs)) h))
    where
      past : (b : Bool) → cond b (Some (position_or_len p xs)) None ≡ None → b ≡ false
      past true e = absurd (none-some _ (sym e))
      past false e = refl

  -- one is found where there is a place, and only there
  pub found_at : (xs : List X) (place : Option ℕ) → place ≡ position p xs → IfSome place (λ _. IsSome (find p xs)) × IfNone place (find p xs ≡ None)
  found_at xs None is = (tt, find-no_position xs (sym is))
  found_at [] (Some i) is = absurd (none-some i (sym is))
  found_at (x ∷ xs) (Some i) is = (ap is_some (find-position (x ∷ xs) i x (sym is)), tt)

  module _ (change : X → X) where
    abbrev changed : List X → List X
    changed xs = map (λ x. cond (p x) (change x) x) xs

    -- a change of those that pass, where none does
    pub none_changed : (xs : List X) → count_by p xs ≡ 0 → map (λ x. cond (p x) (change x) x) xs ≡ xs
    none_changed [] few = refl
    none_changed (x ∷ xs) few = step (p x) (sym (count_by-cons x xs) ∙ few) (none_changed xs)
      where
        step : (b : Bool) → cond {A = ℕ} b 1 0 + count_by p xs ≡ 0 → (count_by p xs ≡ 0 → changed xs ≡ xs) → cond b (change x) x ∷ changed xs ≡ x ∷ xs
        step true e rest = absurd (omega arith)
        step false e rest = ap (λ (l : List X). x ∷ l) (rest (omega arith))

    -- a change of those that pass, where one does: a write at its place
    pub one_changed : (xs : List X) (i : ℕ) (d : X) → count_by p xs ≤ 1 → i < length xs → p (get_or xs i d) ≡ true → map (λ x. cond (p x) (change x) x) xs ≡ set xs i (change (get_or xs i d))
    one_changed [] i d few lt passes = absurd (omega arith)
    one_changed (x ∷ xs) zero d few lt passes =
        let count : count_by p (x ∷ xs) ≡ 1 + count_by p xs = count_by-cons x xs ∙ ap (λ (b : Bool). cond {A = ℕ} b 1 0 + count_by p xs) passes in
        let none : count_by p xs ≡ 0 = omega (arith, count) in
        λ i. cond (passes i) (change x) x ∷ none_changed xs none i
    one_changed (x ∷ xs) (suc i) d few lt passes =
        let more = sum_by_more_le (λ y. cond (p y) 1 0) xs i d (omega arith) in
        let one : cond {A = ℕ} (p (get_or xs i d)) 1 0 ≡ 1 = ap (λ (b : Bool). cond {A = ℕ} b 1 0) passes in
        let few_here : cond {A = ℕ} (p x) 1 0 + count_by p xs ≤ 1 = omega (arith, count_by-cons x xs) in
        let there : 1 ≤ count_by p xs = omega (arith, more, one) in
        step (p x) few_here there (λ few_there. one_changed xs i d few_there (omega arith) passes)
      where
        step : (b : Bool) → cond {A = ℕ} b 1 0 + count_by p xs ≤ 1 → 1 ≤ count_by p xs → (count_by p xs ≤ 1 → changed xs ≡ set xs i (change (get_or xs i d))) → cond b (change x) x ∷ changed xs ≡ x ∷ set xs i (change (get_or xs i d))
        step true e there rest = absurd (omega arith)
        step false e there rest = ap (λ (l : List X). x ∷ l) (rest (omega arith))
