-- Sums over filtered lists.
use Rattle.std.proofs.Common.{◌≡◌, ℕ, ◌+◌, ◌<◌, ◌≤◌, Bool, true, false, cond, List, [], ◌∷◌, refl, sym, ap, ◌∙◌, zero-add, arith, filter, map, sum_by, zero, suc, length, get_or, ◌++◌, replicate}
use Rattle.slice_scheduler.proofs.Common.{AllByRecursion, flat_map, sum_by-cons, sum_by-append}

module _ {X : Type 0} (f : X → ℕ) where
  pub filtered-cons : (p : X → Bool) (x : X) (xs : List X) → sum_by f (filter p (x ∷ xs)) ≡ cond (p x) (f x) 0 + sum_by f (filter p xs)
  filtered-cons p x xs = elim (p x) as (λ b. sum_by f (cond b (x ∷ filter p xs) (filter p xs)) ≡ cond b (f x) 0 + sum_by f (filter p xs)) [
    | true ↦ sum_by-cons f x (filter p xs)
    | false ↦ sym (zero-add (sum_by f (filter p xs)))
  ]

  pub filtered_twice-cons : (p q : X → Bool) (x : X) (xs : List X) → sum_by f (filter p (filter q (x ∷ xs))) ≡ cond (q x) (cond (p x) (f x) 0) 0 + sum_by f (filter p (filter q xs))
  filtered_twice-cons p q x xs = elim (q x) as (λ b. sum_by f (filter p (cond b (x ∷ filter q xs) (filter q xs))) ≡ cond b (cond (p x) (f x) 0) 0 + sum_by f (filter p (filter q xs))) [
    | true ↦ filtered-cons p x (filter q xs)
    | false ↦ sym (zero-add (sum_by f (filter p (filter q xs))))
  ]

  -- a test that is one of two others, never both
  pub filtered-split : (p q r : X → Bool) → ((x : X) (n : ℕ) → cond (p x) n 0 ≡ cond (q x) n 0 + cond (r x) n 0) → (xs : List X) → sum_by f (filter p xs) ≡ sum_by f (filter q xs) + sum_by f (filter r xs)
  filtered-split p q r h [] = refl
  filtered-split p q r h (x ∷ xs) = omega (arith, filtered-cons p x xs, filtered-cons q x xs, filtered-cons r x xs, h x (f x), filtered-split p q r h xs)

  pub filtered-none : (p : X → Bool) (xs : List X) → AllByRecursion (λ x. p x ≡ false) xs → sum_by f (filter p xs) ≡ 0
  filtered-none p [] h = refl
  filtered-none p (x ∷ xs) h = filtered-cons p x xs ∙ omega (arith, ap (λ b. cond b (f x) 0) h.0, filtered-none p xs h.1)

  pub filtered-all : (p : X → Bool) (xs : List X) → AllByRecursion (λ x. p x ≡ true) xs → sum_by f (filter p xs) ≡ sum_by f xs
  filtered-all p [] h = refl
  filtered-all p (x ∷ xs) h = omega (arith, filtered-cons p x xs, sum_by-cons f x xs, ap (λ b. cond b (f x) 0) h.0, filtered-all p xs h.1)

  pub sum_by-same : (g : X → ℕ) (xs : List X) → AllByRecursion (λ x. f x ≡ g x) xs → sum_by f xs ≡ sum_by g xs
  sum_by-same g [] h = refl
  sum_by-same g (x ∷ xs) h = omega (arith, sum_by-cons f x xs, sum_by-cons g x xs, h.0, sum_by-same g xs h.1)

  pub sum_by-add : (g h : X → ℕ) → ((x : X) → f x ≡ g x + h x) → (xs : List X) → sum_by f xs ≡ sum_by g xs + sum_by h xs
  sum_by-add g h e [] = refl
  sum_by-add g h e (x ∷ xs) = omega (arith, sum_by-cons f x xs, sum_by-cons g x xs, sum_by-cons h x xs, e x, sum_by-add g h e xs)

  pub sum_by-flat_map : {Y : Type 0} (g : Y → List X) (h : Y → ℕ) → ((y : Y) → sum_by f (g y) ≡ h y) → (ys : List Y) → sum_by f (flat_map g ys) ≡ sum_by h ys
  sum_by-flat_map g h e [] = refl
  sum_by-flat_map g h e (y ∷ ys) = omega (arith, sum_by-append f (g y) (flat_map g ys), sum_by-cons h y ys, e y, sum_by-flat_map g h e ys)

cond-le : (b : Bool) (n : ℕ) → cond b n 0 ≤ n
cond-le true n = omega arith
cond-le false n = omega arith

pub filtered-le : {X : Type 0} (f : X → ℕ) (p : X → Bool) (xs : List X) → sum_by f (filter p xs) ≤ sum_by f xs
filtered-le f p [] = omega arith
filtered-le f p (x ∷ xs) = omega (arith, filtered-cons f p x xs, sum_by-cons f x xs, cond-le (p x) (f x), filtered-le f p xs)

-- a sum over those of a mapped list that pass
pub filtered-map : {X Y : Type 0} (f : Y → ℕ) (p : Y → Bool) (g : X → Y) (xs : List X) → sum_by f (filter p (map g xs)) ≡ sum_by (λ x. f (g x)) (filter (λ x. p (g x)) xs)
filtered-map f p g [] = refl
filtered-map f p g (x ∷ xs) = omega (arith, filtered-cons f p (g x) (map g xs), filtered-cons (λ y. f (g y)) (λ y. p (g y)) x xs, filtered-map f p g xs)

pub sum_by-le : {X : Type 0} (f g : X → ℕ) (xs : List X) → AllByRecursion (λ x. f x ≤ g x) xs → sum_by f xs ≤ sum_by g xs
sum_by-le f g [] h = omega arith
sum_by-le f g (x ∷ xs) h = omega (arith, sum_by-cons f x xs, sum_by-cons g x xs, h.0, sum_by-le f g xs h.1)

-- an element that does not pass comes on top of those that do
pub filtered-without : {X : Type 0} (f : X → ℕ) (p : X → Bool) (xs : List X) (i : ℕ) (e : X) → i < length xs → p (get_or xs i e) ≡ false → sum_by f (filter p xs) + f (get_or xs i e) ≤ sum_by f xs
filtered-without f p [] i e lt not = absurd (omega arith)
filtered-without f p (x ∷ xs) zero e lt not = omega (arith, filtered-cons f p x xs, sum_by-cons f x xs, ap (λ b. cond b (f x) 0) not, filtered-le f p xs)
filtered-without f p (x ∷ xs) (suc i) e lt not = omega (arith, filtered-cons f p x xs, sum_by-cons f x xs, cond-le (p x) (f x), filtered-without f p xs i e (omega arith) not)

pub recursion-weaker : {X : Type 0} (P Q : X → Type 0) → ((x : X) → P x → Q x) → (xs : List X) → AllByRecursion P xs → AllByRecursion Q xs
recursion-weaker P Q h [] a = tt
recursion-weaker P Q h (x ∷ xs) a = (h x a.0, recursion-weaker P Q h xs a.1)

pub recursion-filter : {X : Type 0} (P : X → Type 0) (p : X → Bool) (xs : List X) → AllByRecursion P xs → AllByRecursion P (filter p xs)
recursion-filter P p [] a = tt
recursion-filter P p (x ∷ xs) a = elim (p x) as (λ b. AllByRecursion P (cond b (x ∷ filter p xs) (filter p xs))) [
  | true ↦ (a.0, recursion-filter P p xs a.1)
  | false ↦ recursion-filter P p xs a.1
]

kept-step : {X : Type 0} (P : X → Type 0) (p : X → Bool) (x : X) (xs : List X) (b : Bool) → p x ≡ b → (p x ≡ true → P x) → AllByRecursion P xs → AllByRecursion P (cond b (x ∷ xs) xs)
kept-step P p x xs true e h a = (h e, a)
kept-step P p x xs false e h a = a

-- what follows from the test holds of all that pass it
pub kept-pass : {X : Type 0} (P : X → Type 0) (p : X → Bool) → ((x : X) → p x ≡ true → P x) → (xs : List X) → AllByRecursion P (filter p xs)
kept-pass P p h [] = tt
kept-pass P p h (x ∷ xs) = kept-step P p x (filter p xs) (p x) refl (h x) (kept-pass P p h xs)

pub recursion-append : {X : Type 0} (P : X → Type 0) (xs ys : List X) → AllByRecursion P xs → AllByRecursion P ys → AllByRecursion P (xs ++ ys)
recursion-append P [] ys a b = b
recursion-append P (x ∷ xs) ys a b = (a.0, recursion-append P xs ys a.1 b)

pub recursion-flat_map : {X Y : Type 0} (P : Y → Type 0) (g : X → List Y) (xs : List X) → AllByRecursion (λ x. AllByRecursion P (g x)) xs → AllByRecursion P (flat_map g xs)
recursion-flat_map P g [] a = tt
recursion-flat_map P g (x ∷ xs) a = recursion-append P (g x) (flat_map g xs) a.0 (recursion-flat_map P g xs a.1)

pub recursion-map : {X Y : Type 0} (P : Y → Type 0) (g : X → Y) (xs : List X) → AllByRecursion (λ x. P (g x)) xs → AllByRecursion P (map g xs)
recursion-map P g [] a = tt
recursion-map P g (x ∷ xs) a = (a.0, recursion-map P g xs a.1)

pub recursion-replicate : {X : Type 0} (P : X → Type 0) (n : ℕ) (x : X) → P x → AllByRecursion P (replicate n x)
recursion-replicate P zero x h = tt
recursion-replicate P (suc n) x h = (h, recursion-replicate P n x h)

-- what holds of all
pub recursion-each : {X : Type 0} (P : X → Type 0) → ((x : X) → P x) → (xs : List X) → AllByRecursion P xs
recursion-each P h [] = tt
recursion-each P h (x ∷ xs) = (h x, recursion-each P h xs)

-- what is left out of a list is left out of what it is mapped to
pub kept-map : {X Y : Type 0} (g : X → Y) (q : X → Bool) (p : Y → Bool) → ((x : X) → p (g x) ≡ q x) → (xs : List X) → map g (filter q xs) ≡ filter p (map g xs)
kept-map g q p same [] = refl
kept-map {Y} g q p same (x ∷ xs) = one (kept-map g q p same xs) (q x) ∙ ap (λ (b : Bool). cond b (g x ∷ filter p (map g xs)) (filter p (map g xs))) (sym (same x))
  where
    one : map g (filter q xs) ≡ filter p (map g xs) → (b : Bool) → map g (cond b (x ∷ filter q xs) (filter q xs)) ≡ cond b (g x ∷ filter p (map g xs)) (filter p (map g xs))
    one rest true = ap (λ (ys : List Y). g x ∷ ys) rest
    one rest false = rest
