-- Where two lists differ first.
use Rattle.std.proofs.Common.{◌≡◌, ℕ, zero, suc, ◌+◌, ◌<◌, ◌≤◌, List, [], ◌∷◌, ◌++◌, length, take, drop, get_or, append-nil, Option, Some, None, refl, sym, ap, ◌∙◌, arith}
use Rattle.plant_workers.proofs.AuditLemmas.Common.{slice_get, filter_map, length-take-le, drop_more, take_more, filter_map-append, none-some, same_Some, slice_get_within, get_or_from_slice_get, DifferFirst}

nothing_left : {X : Type 0} (xs : List X) (i : ℕ) → length xs ≤ i → drop i xs ≡ []
nothing_left [] zero le = refl
nothing_left [] (suc i) le = refl
nothing_left (x ∷ xs) zero le = absurd (omega (arith, le))
nothing_left (x ∷ xs) (suc i) le = nothing_left xs i (omega (arith, le))

module _ {A : Type 0} where
  take_append : (xs ys : List A) (n : ℕ) → length xs ≡ n → take n (xs ++ ys) ≡ xs
  take_append [] ys n e = ap (λ (k : ℕ). take k ys) (sym e)
  take_append (x ∷ xs) ys zero e = absurd (omega (arith, e))
  take_append (x ∷ xs) ys (suc n) e = ap (λ (zs : List A). x ∷ zs) (take_append xs ys n (omega (arith, e)))

  pub get_append : (xs ys : List A) (y : A) (n : ℕ) → length xs ≡ n → slice_get (xs ++ y ∷ ys) n ≡ Some y
  get_append [] ys y zero e = refl
  get_append [] ys y (suc n) e = absurd (omega (arith, e))
  get_append (x ∷ xs) ys y zero e = absurd (omega (arith, e))
  get_append (x ∷ xs) ys y (suc n) e = get_append xs ys y n (omega (arith, e))

  past_end : (xs : List A) (n : ℕ) → length xs ≤ n → slice_get xs n ≡ None
  past_end [] n le = refl
  past_end (x ∷ xs) zero le = absurd (omega (arith, le))
  past_end (x ∷ xs) (suc n) le = past_end xs n (omega (arith, le))

  some_there : (xs : List A) (n : ℕ) → n < length xs → (x : A) × (slice_get xs n ≡ Some x)
  some_there [] n lt = absurd (omega (arith, lt))
  some_there (x ∷ xs) zero lt = (x, refl)
  some_there (x ∷ xs) (suc n) lt = some_there xs n (omega (arith, lt))

  take_whole : (xs : List A) (n : ℕ) → length xs ≤ n → take n xs ≡ xs
  take_whole [] zero le = refl
  take_whole [] (suc n) le = refl
  take_whole (x ∷ xs) zero le = absurd (omega (arith, le))
  take_whole (x ∷ xs) (suc n) le = ap (λ (zs : List A). x ∷ zs) (take_whole xs n (omega (arith, le)))

  -- one more is the same
  pub take_next : (xs rest : List A) (n : ℕ) (x : A) → slice_get xs n ≡ Some x → take n xs ++ x ∷ rest ≡ take (n + 1) xs ++ rest
  take_next [] rest n x e = let f : ◌≡◌ {A = Option A} None (Some x) = e in absurd (none-some x f)
  take_next (y ∷ xs) rest zero x e = ap (λ (z : A). z ∷ rest) (sym (same_Some y x e))
  take_next (y ∷ xs) rest (suc n) x e =
      let one : suc n + 1 ≡ suc (n + 1) = omega arith in
      ap (λ (zs : List A). y ∷ zs) (take_next xs rest n x e) ∙ ap (λ (k : ℕ). take k (y ∷ xs) ++ rest) (sym one)

  -- the other list goes on with something else
  pub differ_here : (xs ys rest : List A) (n : ℕ) (x : A) → n ≤ length xs → ys ≡ take n xs ++ x ∷ rest → (slice_get xs n ≡ Some x → ⊥) → DifferFirst xs ys n
  differ_here xs ys rest n x le e ne =
      let long = length-take-le n xs le in
      record {
        before = sym (ap (λ (zs : List A). take n zs) e ∙ take_append (take n xs) (x ∷ rest) n long);
        there = λ same. ne (same ∙ (ap (λ (zs : List A). slice_get zs n) e ∙ get_append (take n xs) rest x n long));
      }

  -- the other list ends
  pub differ_end : (xs ys : List A) (n : ℕ) → n < length xs → ys ≡ take n xs → DifferFirst xs ys n
  differ_end xs ys n lt e =
      let long = length-take-le n xs (omega (arith, lt)) in
      let here = some_there xs n lt in
      record {
        before = sym (ap (λ (zs : List A). take n zs) e ∙ take_whole (take n xs) n (omega (arith, long)));
        there = λ same. none-some here.0 (sym (past_end ys n (omega (arith, ap length e, long))) ∙ (sym same ∙ here.1));
      }

  -- both end
  pub same_end : (xs ys : List A) (n : ℕ) → length xs ≤ n → ys ≡ take n xs → ys ≡ xs
  same_end xs ys n le e = e ∙ take_whole xs n le

  pub flipped : (xs ys : List A) (n : ℕ) → DifferFirst xs ys n → DifferFirst ys xs n
  flipped xs ys n h = record { before = sym h.before; there = λ e. h.there (sym e) }

-- ---- a list that is walked, beside what its elements give

module _ {X Y : Type 0} (f : X → Option Y) where
  pub gives_none : (x : X) (xs : List X) → f x ≡ None → filter_map f (x ∷ xs) ≡ filter_map f xs
  gives_none x xs e = rw e refl

  pub gives_some : (x : X) (xs : List X) (y : Y) → f x ≡ Some y → filter_map f (x ∷ xs) ≡ y ∷ filter_map f xs
  gives_some x xs y e = rw e refl

  -- what the first elements give, with one element more
  module _ (all : List X) (at : ℕ) (x : X) (here : slice_get all at ≡ Some x) where
    one_more : filter_map f (take (at + 1) all) ≡ filter_map f (take at all) ++ filter_map f (x ∷ [])
    one_more =
        ap (λ (xs : List X). filter_map f xs)
        (take_more all at x (slice_get_within all at x here) ∙ ap (λ (y : X). take at all ++ y ∷ []) (get_or_from_slice_get all at x x here))
        ∙ filter_map-append f (take at all) (x ∷ [])

    pub more_none : f x ≡ None → filter_map f (take (at + 1) all) ≡ filter_map f (take at all)
    more_none e =
        one_more
        ∙ (ap (λ (ys : List Y). filter_map f (take at all) ++ ys) (gives_none x [] e)
        ∙ append-nil (filter_map f (take at all)))

    pub more_some : (y : Y) → f x ≡ Some y → filter_map f (take (at + 1) all) ≡ filter_map f (take at all) ++ y ∷ []
    more_some y e = one_more ∙ ap (λ (ys : List Y). filter_map f (take at all) ++ ys) (gives_some x [] y e)

  module _ (all due : List Y) (xs : List X) (n i : ℕ) (x : X) (walked : all ≡ take n due ++ filter_map f (drop i xs)) (lt : i < length xs) (here : x ≡ get_or xs i x) where
    left_is : drop i xs ≡ x ∷ drop (i + 1) xs
    left_is = drop_more xs i x lt ∙ ap (λ (y : X). y ∷ drop (i + 1) xs) (sym here)

    pub walk_none : f x ≡ None → all ≡ take n due ++ filter_map f (drop (i + 1) xs)
    walk_none e =
        walked ∙ (ap (λ (ys : List X). take n due ++ filter_map f ys) left_is
        ∙ ap (λ (ys : List Y). take n due ++ ys) (gives_none x (drop (i + 1) xs) e))

    pub walk_here : (y : Y) → f x ≡ Some y → all ≡ take n due ++ y ∷ filter_map f (drop (i + 1) xs)
    walk_here y e =
        walked ∙ (ap (λ (ys : List X). take n due ++ filter_map f ys) left_is
        ∙ ap (λ (ys : List Y). take n due ++ ys) (gives_some x (drop (i + 1) xs) y e))

    pub walk_some : (y : Y) → f x ≡ Some y → slice_get due n ≡ Some y → all ≡ take (n + 1) due ++ filter_map f (drop (i + 1) xs)
    walk_some y e there = walk_here y e ∙ take_next due (filter_map f (drop (i + 1) xs)) n y there

  -- the whole list is walked
  pub walk_end : (all due : List Y) (xs : List X) (n i : ℕ) → all ≡ take n due ++ filter_map f (drop i xs) → length xs ≤ i → all ≡ take n due
  walk_end all due xs n i walked le =
      walked ∙ (ap (λ (ys : List X). take n due ++ filter_map f ys) (nothing_left xs i le) ∙ append-nil (take n due))
