-- Lists that are made of what a test leaves of others.
use Rattle.std.proofs.Common.{◌≡◌, ℕ, ◌+◌, ◌<◌, Bool, true, false, cond, List, [], ◌∷◌, ◌++◌, ◌⊎◌, length, get_or, take, map, filter, Option, Some, None, is_some, unwrap_or, refl, sym, ap, ◌∙◌, subst, inl, inr, append_assoc}
use Rattle.trace_report.proofs.ChecksLemmas.Common.{Any, All, Contains, if◌then◌else◌, Decides, AllByRecursion, list_any, append-nil, map-append, All-from_recursion, filter_more, true≢false, Flow, sids_of, contains-here, contains-later, contains_cases, contains-nothing}
use Rattle.std.proofs.lemmas.List.Folds.{Any-from_list_any, list_any-from_Any}

abbrev pub has_sid : ℕ × Flow → Bool
has_sid entry = is_some entry.1.sid

abbrev pub sid_in : ℕ × Flow → ℕ
sid_in entry = unwrap_or entry.1.sid 0

pub sids_chosen : (flows : List (ℕ × Flow)) → map sid_in (filter has_sid flows) ≡ sids_of flows
sids_chosen [] = refl
sids_chosen (entry ∷ flows) = by entry.1.sid refl (sids_chosen flows)
  where
    by : (o : Option ℕ) → entry.1.sid ≡ o → map sid_in (filter has_sid flows) ≡ sids_of flows → map sid_in (filter has_sid (entry ∷ flows)) ≡ sids_of (entry ∷ flows)
    by None is rest = rw is rest
    by (Some sid) is rest = rw is (ap (λ (sids : List ℕ). sid ∷ sids) rest)

-- ---- one more element: what comes of it is put behind what was there

module _ {X Y : Type 0} (f : X → Y) (p : X → Bool) (xs : List X) (i : ℕ) (x : X) (lt : i < length xs) (is : x ≡ get_or xs i x) (before ys : List Y) (eq : ys ≡ before ++ map f (filter p (take i xs))) where
  more : (b : Bool) → p x ≡ b → ys ++ map f (cond b (x ∷ []) []) ≡ before ++ map f (filter p (take (i + 1) xs))
  more b here =
      ap (λ (zs : List Y). zs ++ map f (cond b (x ∷ []) [])) eq
      ∙ (append_assoc before _ _
      ∙ ap (λ (zs : List Y). before ++ zs) (ap (λ (c : Bool). map f (filter p (take i xs)) ++ map f (cond c (x ∷ []) [])) (sym here)
      ∙ (ap (λ (y : X). map f (filter p (take i xs)) ++ map f (cond (p y) (y ∷ []) [])) is
      ∙ (sym (map-append f (filter p (take i xs)) _) ∙ ap (map f) (sym (filter_more p xs i x lt))))))

  pub one_kept : p x ≡ true → ys ++ f x ∷ [] ≡ before ++ map f (filter p (take (i + 1) xs))
  one_kept here = more true here

  pub one_left : p x ≡ false → ys ≡ before ++ map f (filter p (take (i + 1) xs))
  one_left here = sym (append-nil ys) ∙ more false here

-- ---- any

module _ {X : Type 0} where
  pub any_like : (P Q : X → Type 0) (xs : List X) → ((x : X) → P x → Q x) → Any P xs → Any Q xs
  any_like P Q xs to any = (any.0, any.1, any.2, any.3, to any.1 any.4)

  pub any_decides : (p : X → Bool) (P : X → Type 0) → ((x : X) → Decides (p x) (P x)) → (xs : List X) → Decides (list_any p xs) (Any P xs)
  any_decides p P each xs = (
    (λ is. any_like (λ (x : X). p x ≡ true) P xs (λ x h. (each x).0 h) (Any-from_list_any p xs is)),
    (λ any. list_any-from_Any p xs (any_like P (λ (x : X). p x ≡ true) xs (λ x h. (each x).1 h) any)),
  )

-- ---- what a test leaves, each by a function

module _ {X Y : Type 0} (f : X → Y) (p : X → Bool) where
  pub left_from : (xs : List X) (y : Y) → Contains (map f (filter p xs)) y → (x : X) × Contains xs x × (p x ≡ true) × (f x ≡ y)
  left_from [] y has = absurd (contains-nothing y has)
  left_from (x ∷ xs) y has = by (left_from xs y) (p x) refl has
    where
      by : (Contains (map f (filter p xs)) y → (z : X) × Contains xs z × (p z ≡ true) × (f z ≡ y)) → (b : Bool) → p x ≡ b → Contains (map f (filter p (x ∷ xs))) y
          → (z : X) × Contains (x ∷ xs) z × (p z ≡ true) × (f z ≡ y)
      by more true is has = go (contains_cases (f x) (map f (filter p xs)) y (kept is has))
        where
          kept : p x ≡ true → Contains (map f (filter p (x ∷ xs))) y → Contains (f x ∷ map f (filter p xs)) y
          kept is has = subst (λ (c : Bool). Contains (map f (if c then x ∷ filter p xs else filter p xs)) y) is has

          go : (f x ≡ y) ⊎ Contains (map f (filter p xs)) y → (z : X) × Contains (x ∷ xs) z × (p z ≡ true) × (f z ≡ y)
          go (inl same) = (x, contains-here x xs, is, same)
          go (inr later) = let m = more later in (m.0, contains-later x xs m.0 m.1, m.2, m.3)
      by more false is has =
          let m = more (subst (λ (c : Bool). Contains (map f (if c then x ∷ filter p xs else filter p xs)) y) is has) in
          (m.0, contains-later x xs m.0 m.1, m.2, m.3)

  pub left_to : (xs : List X) (x : X) → Contains xs x → p x ≡ true → Contains (map f (filter p xs)) (f x)
  left_to [] x has is = absurd (contains-nothing x has)
  left_to (z ∷ zs) x has is = by (left_to zs x) (p z) refl (contains_cases z zs x has)
    where
      by : (Contains zs x → p x ≡ true → Contains (map f (filter p zs)) (f x)) → (b : Bool) → p z ≡ b → (z ≡ x) ⊎ Contains zs x → Contains (map f (filter p (z ∷ zs))) (f x)
      by more true is_left (inl same) = rw is_left (subst (λ (w : X). Contains (f z ∷ map f (filter p zs)) (f w)) same (contains-here (f z) (map f (filter p zs))))
      by more true is_left (inr later) = rw is_left (contains-later (f z) (map f (filter p zs)) (f x) (more later is))
      by more false out (inl same) = absurd (true≢false (sym is ∙ (ap p (sym same) ∙ out)))
      by more false out (inr later) = rw out (more later is)

-- what holds of each that is contained holds of all
module _ {X : Type 0} (P : X → Type 0) where
  each_of : (xs : List X) → ((x : X) → Contains xs x → P x) → AllByRecursion P xs
  each_of [] each = tt
  each_of (x ∷ xs) each = (each x (contains-here x xs), each_of xs (λ y has. each y (contains-later x xs y has)))

  pub all_of : (xs : List X) → ((x : X) → Contains xs x → P x) → All P xs
  all_of xs each = All-from_recursion P xs (each_of xs each)
