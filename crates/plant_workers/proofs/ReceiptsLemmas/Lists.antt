-- Lists, place by place.
use Rattle.std.proofs.Common.{◌≡◌, ℕ, zero, suc, ◌+◌, ◌<◌, ◌≤◌, List, [], ◌∷◌, ◌++◌, length, get_or, map, take, drop, All, ◌⊎◌, inl, inr, Some, refl, sym, ap, ◌∙◌, subst, arith}
use Rattle.plant_workers.proofs.ReceiptsLemmas.Common.{slice_get, AllZip, cases_eq, take_more, take_all, take-append-drop, drop_more, map-append, All-more, same_Some}

module _ {A B : Type 0} (R : A → B → Type 0) where
  pub zip_push : (xs : List A) (ys : List B) (x : A) (y : B) → AllZip R xs ys → R x y → AllZip R (xs ++ x ∷ []) (ys ++ y ∷ [])
  zip_push [] [] x y h r = (r, tt)
  zip_push [] (z ∷ ys) x y h r = absurd h
  zip_push (w ∷ xs) [] x y h r = absurd h
  zip_push (w ∷ xs) (z ∷ ys) x y h r = (h.0, zip_push xs ys x y h.1 r)

  pub zip_at : (xs : List A) (ys : List B) (i : ℕ) (x : A) (y : B) → AllZip R xs ys → i < length xs → R (get_or xs i x) (get_or ys i y)
  zip_at [] [] i x y h lt = absurd (omega arith)
  zip_at [] (z ∷ ys) i x y h lt = absurd h
  zip_at (w ∷ xs) [] i x y h lt = absurd h
  zip_at (w ∷ xs) (z ∷ ys) zero x y h lt = h.0
  zip_at (w ∷ xs) (z ∷ ys) (suc i) x y h lt = zip_at xs ys i x y h.1 (omega arith)

  pub zip_long : (xs : List A) (ys : List B) → AllZip R xs ys → length xs ≡ length ys
  zip_long [] [] h = refl
  zip_long [] (z ∷ ys) h = absurd h
  zip_long (w ∷ xs) [] h = absurd h
  zip_long (w ∷ xs) (z ∷ ys) h = ap suc (zip_long xs ys h.1)

-- what stands at a place of a list is what is read there
pub at_place : {X : Type 0} (xs : List X) (i : ℕ) (x d : X) → slice_get xs i ≡ Some x → get_or xs i d ≡ x
at_place [] i x d e = cc
at_place (y ∷ ys) zero x d e = same_Some y x e
at_place (y ∷ ys) (suc i) x d e = at_place ys i x d e

pub at_map : {X Y : Type 0} (f : X → Y) (xs : List X) (i : ℕ) (d : X) → i < length xs → slice_get (map f xs) i ≡ Some (f (get_or xs i d))
at_map f [] i d lt = absurd (omega arith)
at_map f (x ∷ xs) zero d lt = refl
at_map f (x ∷ xs) (suc i) d lt = at_map f xs i d (omega arith)

-- each number below n gives 1, or some one does not
pub each_or_some : (f : ℕ → ℕ) (n : ℕ) → ((k : ℕ) → k < n → f k ≡ 1) ⊎ ((k : ℕ) × (k < n) × (f k ≡ 1 → ⊥))
each_or_some f zero = inl (λ k lt. absurd (omega arith))
each_or_some f (suc n) = by (each_or_some f n) (cases_eq (f n) 1)
  where
    by : ((k : ℕ) → k < n → f k ≡ 1) ⊎ ((k : ℕ) × (k < n) × (f k ≡ 1 → ⊥)) → (f n ≡ 1) ⊎ (f n ≡ 1 → ⊥) → ((k : ℕ) → k < suc n → f k ≡ 1) ⊎ ((k : ℕ) × (k < suc n) × (f k ≡ 1 → ⊥))
    by (inr some) last = inr (some.0, omega (arith, some.1), some.2)
    by (inl each) (inr ne) = inr (n, omega arith, ne)
    by (inl each) (inl e) = inl (λ k lt. pick k lt (cases_eq k n))
      where
        pick : (k : ℕ) → k < suc n → (k ≡ n) ⊎ (k ≡ n → ⊥) → f k ≡ 1
        pick k lt (inl same) = ap f same ∙ e
        pick k lt (inr other) = each k (omega (arith, other))

-- what is read at a place, seen by f, stands there in the list seen by f
pub map_here : {X Y : Type 0} (f : X → Y) (xs : List X) (i : ℕ) (x : X) → i < length xs → x ≡ get_or xs i x → slice_get (map f xs) i ≡ Some (f x)
map_here f xs i x lt is = at_map f xs i x lt ∙ ap (λ z. Some (f z)) (sym is)

pub middle : {X : Type 0} (before after : List X) (x d : X) → get_or (before ++ x ∷ after) (length before) d ≡ x
middle [] after x d = refl
middle (y ∷ before) after x d = middle before after x d

pub before_end : {X : Type 0} (before after : List X) (x : X) → length before < length (before ++ x ∷ after)
before_end [] after x = omega arith
before_end (y ∷ before) after x = let shorter : length before < length (before ++ x ∷ after) = before_end before after x in omega arith

-- ---- the step and the end of a loop

module _ {A B : Type 0} (R : A → B → Type 0) where
  -- one more of what is made of each
  pub zip_more : {X : Type 0} (f : X → B) (made new : List A) (xs : List X) (i : ℕ) (y : A) (x : X) → i < length xs → x ≡ get_or xs i x
      → AllZip R made (map f (take i xs)) → R y (f x) → new ≡ made ++ y ∷ [] → AllZip R new (map f (take (i + 1) xs))
  zip_more f made new xs i y x lt is so_far here grown =
      let split : map f (take (i + 1) xs) ≡ map f (take i xs) ++ f x ∷ [] =
      ap (map f) (take_more xs i x lt) ∙ (map-append f (take i xs) (get_or xs i x ∷ []) ∙ ap (λ z. map f (take i xs) ++ f z ∷ []) (sym is)) in
      subst (λ rs. AllZip R rs (map f (take (i + 1) xs))) (sym grown)
      (subst (λ bs. AllZip R (made ++ y ∷ []) bs) (sym split) (zip_push R made (map f (take i xs)) y (f x) so_far here))

  -- one more holds of which a fact of the element beside it tells
  pub all_more : (P : B → Type 0) (all : List A) (ys : List B) (i : ℕ) (x : A) → i < length all → x ≡ get_or all i x → AllZip R all ys
      → ((y : B) → R x y → P y) → All P (take i ys) → All P (take (i + 1) ys)
  all_more P all [] i x lt is zip tells so_far = absurd (let long : length all ≡ length {A = B} [] = zip_long R all [] zip in omega (arith, long, lt))
  all_more P all (y ∷ ys) i x lt is zip tells so_far =
      let long : length all ≡ length (y ∷ ys) = zip_long R all (y ∷ ys) zip in
      let within : i < length (y ∷ ys) = omega (arith, long, lt) in
      All-more P (y ∷ ys) i y within so_far
      (tells (get_or (y ∷ ys) i y) (subst (λ z. R z (get_or (y ∷ ys) i y)) (sym is) (zip_at R all (y ∷ ys) i x y zip lt)))

  pub all_end : (P : B → Type 0) (all : List A) (ys : List B) (i : ℕ) → length all ≤ i → AllZip R all ys → All P (take i ys) → All P ys
  all_end P all ys i past zip so_far =
      let long : length all ≡ length ys = zip_long R all ys zip in
      let end : length ys ≤ i = omega (arith, long, past) in
      subst (All P) (take_all i ys end) so_far

  -- one does not
  pub all_not : (P : B → Type 0) (all : List A) (ys : List B) (i : ℕ) (x : A) → i < length all → x ≡ get_or all i x → AllZip R all ys
      → ((y : B) → R x y → ¬ P y) → ¬ All P ys
  all_not P all [] i x lt is zip tells every = absurd (let long : length all ≡ length {A = B} [] = zip_long R all [] zip in omega (arith, long, lt))
  all_not P all (y ∷ ys) i x lt is zip tells every =
      let long : length all ≡ length (y ∷ ys) = zip_long R all (y ∷ ys) zip in
      tells (get_or (y ∷ ys) i y) (subst (λ z. R z (get_or (y ∷ ys) i y)) (sym is) (zip_at R all (y ∷ ys) i x y zip lt)) (every i y (omega (arith, long, lt)))

pub all_past : {X : Type 0} (P : X → Type 0) (xs : List X) (i : ℕ) → length xs ≤ i → All P (take i xs) → All P xs
all_past P xs i past so_far = subst (All P) (take_all i xs past) so_far

-- a list is what stands before a place, what is read there, and the rest
pub split_here : {X : Type 0} (xs : List X) (i : ℕ) (x : X) → i < length xs → x ≡ get_or xs i x → xs ≡ take i xs ++ x ∷ drop (i + 1) xs
split_here xs i x lt is =
    sym (take-append-drop i xs) ∙ ap (λ ys. take i xs ++ ys) (drop_more xs i x lt ∙ ap (λ z. z ∷ drop (i + 1) xs) (sym is))

pub zip_some : {A B : Type 0} (R : A → B → Type 0) (all : List A) (ys : List B) (i : ℕ) (x : A) → i < length all → x ≡ get_or all i x → AllZip R all ys → (y : B) × R x y
zip_some R all [] i x lt is zip = absurd (let long : length all ≡ 0 = zip_long R all [] zip in omega (arith, long, lt))
zip_some R all (y ∷ ys) i x lt is zip = (get_or (y ∷ ys) i y, subst (λ z. R z (get_or (y ∷ ys) i y)) (sym is) (zip_at R all (y ∷ ys) i x y zip lt))

pub all_next : {X : Type 0} (P : X → Type 0) (xs : List X) (i : ℕ) (x : X) → i < length xs → x ≡ get_or xs i x → All P (take i xs) → P x → All P (take (i + 1) xs)
all_next P xs i x lt is so_far here = All-more P xs i x lt so_far (subst P is here)
