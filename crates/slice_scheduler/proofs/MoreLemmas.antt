-- One more element of a list, and what comes of it.
use Rattle.std.proofs.Common.{◌≡◌, ℕ, ◌+◌, ◌<◌, Bool, true, false, cond, List, [], ◌∷◌, ◌++◌, ap, sym, subst, ◌∙◌, All, length, get_or, take, map, filter, sum_by}
use Rattle.slice_scheduler.proofs.Common.{flat_map, append-nil, take_more, map-append, All-append, filter-append, sum_by_more, flat_map-append}

-- what all elements of two lists have, each of the lists joined has
pub All-joined : {A : Type 0} (P : A → Type 0) (xs ys zs : List A) → zs ≡ xs ++ ys → All P xs → All P ys → All P zs
All-joined P xs ys zs eq px py = subst (All P) (sym eq) (All-append P xs ys px py)

module _ {X : Type 0} (xs : List X) (i : ℕ) (x d : X) (lt : i < length xs) (is : x ≡ get_or xs i d) where
  pub take-next : take (i + 1) xs ≡ take i xs ++ x ∷ []
  take-next = take_more xs i d lt ∙ ap (λ y. take i xs ++ y ∷ []) (sym is)

  pub sum_by-more : (f : X → ℕ) → sum_by f (take (i + 1) xs) ≡ sum_by f (take i xs) + f x
  sum_by-more f = sum_by_more f xs i d lt ∙ ap (λ y. sum_by f (take i xs) + f y) (sym is)

  pub flat_map-more : {A : Type 0} (f : X → List A) (ys : List A) → ys ≡ flat_map f (take i xs) → ys ++ f x ≡ flat_map f (take (i + 1) xs)
  flat_map-more f ys eq =
      ap (λ zs. zs ++ f x) eq
      ∙ (ap (λ zs. flat_map f (take i xs) ++ zs) (sym (append-nil (f x)))
      ∙ (sym (flat_map-append f (take i xs) (x ∷ [])) ∙ ap (flat_map f) (sym take-next)))

  filter-more : (p : X → Bool) (b : Bool) → p x ≡ b → filter p (take i xs) ++ cond b (x ∷ []) [] ≡ filter p (take (i + 1) xs)
  filter-more p b eq =
      ap (λ c. filter p (take i xs) ++ cond c (x ∷ []) []) (sym eq)
      ∙ (sym (filter-append p (take i xs) (x ∷ [])) ∙ ap (filter p) (sym take-next))

  -- the next element is kept
  pub filter-kept : (p : X → Bool) → p x ≡ true → filter p (take i xs) ++ x ∷ [] ≡ filter p (take (i + 1) xs)
  filter-kept p eq = filter-more p true eq

  -- the next element is left out
  pub filter-left : (p : X → Bool) → p x ≡ false → filter p (take i xs) ≡ filter p (take (i + 1) xs)
  filter-left p eq = sym (append-nil (filter p (take i xs))) ∙ filter-more p false eq

  pub map-kept : {Y : Type 0} (f : X → Y) (p : X → Bool) (ys : List Y) → p x ≡ true → ys ≡ map f (filter p (take i xs)) → ys ++ f x ∷ [] ≡ map f (filter p (take (i + 1) xs))
  map-kept f p ys kept eq =
      ap (λ zs. zs ++ f x ∷ []) eq ∙ (sym (map-append f (filter p (take i xs)) (x ∷ [])) ∙ ap (map f) (filter-kept p kept))

  pub map-left : {Y : Type 0} (f : X → Y) (p : X → Bool) (ys : List Y) → p x ≡ false → ys ≡ map f (filter p (take i xs)) → ys ≡ map f (filter p (take (i + 1) xs))
  map-left f p ys left eq = eq ∙ ap (map f) (filter-left p left)
