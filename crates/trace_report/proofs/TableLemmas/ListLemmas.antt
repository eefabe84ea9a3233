-- Lists: what they contain, and the first that passes a test.
use Rattle.std.proofs.Common.{◌≡◌, ℕ, zero, suc, ◌<◌, Bool, true, false, List, [], ◌∷◌, ◌++◌, length, ◌⊎◌, Option, Some, None, refl, sym, ap, ◌∙◌, subst, arith, inl, inr}
use Rattle.trace_report.proofs.TableLemmas.Common.{Contains, Any, find, MatchOption, AllByRecursion, list_all, slice_index_or, cond_both, and_parts, and_cases, true≢false, All-nil, All-cons, All-contains, All-from_recursion, recursion_from_All, Contains-append_right, IsFirst}

module _ {X : Type 0} where
  -- ---- what is contained

  pub contains-here : (x : X) (xs : List X) → Contains (x ∷ xs) x
  contains-here x xs = (0, omega arith, refl)

  pub contains-later : (y : X) (xs : List X) (x : X) → Contains xs x → Contains (y ∷ xs) x
  contains-later y xs x has = (suc has.0, omega (arith, has.1), has.2)

  pub contains_cases : (y : X) (xs : List X) (x : X) → Contains (y ∷ xs) x → (y ≡ x) ⊎ Contains xs x
  contains_cases y xs x has = go has.0 has.1 has.2
    where
      go : (k : ℕ) → k < length (y ∷ xs) → slice_index_or (y ∷ xs) k x ≡ x → (y ≡ x) ⊎ Contains xs x
      go zero lt is = inl is
      go (suc k) lt is = inr (k, omega arith, is)

  pub contains-nothing : (x : X) → ¬ Contains [] x
  contains-nothing x has = omega (arith, has.1)

  -- ---- any

  module _ (P : X → Type 0) where
    pub any_from : (xs : List X) (x : X) → Contains xs x → P x → Any P xs
    any_from xs x has holds = (has.0, x, has.1, has.2, holds)

    pub none_any : (xs : List X) → AllByRecursion (λ x. ¬ P x) xs → ¬ Any P xs
    none_any xs none any = All-contains (λ x. ¬ P x) xs any.1 (All-from_recursion (λ x. ¬ P x) xs none) (any.0, any.2, any.3) any.4

    -- one more behind
    pub all_more : (xs : List X) (x : X) → AllByRecursion P xs → P x → AllByRecursion P (xs ++ x ∷ [])
    all_more [] x all holds = (holds, tt)
    all_more (y ∷ xs) x all holds = (all.0, all_more xs x all.1 holds)

    pub all_append : (xs ys : List X) → AllByRecursion P xs → AllByRecursion P ys → AllByRecursion P (xs ++ ys)
    all_append [] ys all rest = rest
    all_append (x ∷ xs) ys all rest = (all.0, all_append xs ys all.1 rest)

    -- ---- the first

    pub first-here : (x : X) (xs : List X) → P x → IsFirst P (x ∷ xs) x
    first-here x xs holds = record { before = []; after = xs; split = refl; none = All-nil (λ y. ¬ P y); holds = holds }

    pub first-later : (x : X) (xs : List X) (y : X) → ¬ P x → IsFirst P xs y → IsFirst P (x ∷ xs) y
    first-later x xs y fails first = record {
      before = x ∷ first.before;
      after = first.after;
      split = ap (λ ys. x ∷ ys) first.split;
      none = All-cons (λ z. ¬ P z) x first.before fails first.none;
      holds = first.holds;
    }

    module _ (p : X → Bool) (yes : (x : X) → p x ≡ true → P x) (no : (x : X) → p x ≡ false → ¬ P x) where
      pub find-first : (xs : List X) → MatchOption (find p xs) (AllByRecursion (λ x. ¬ P x) xs) (IsFirst P xs)
      find-first [] = tt
      find-first (x ∷ xs) =
          cond_both (p x) (Some x) (find p xs) (λ (o : Option X). MatchOption o (AllByRecursion (λ y. ¬ P y) (x ∷ xs)) (IsFirst P (x ∷ xs)))
          (λ is. first-here x xs (yes x is)) (λ is. go (no x is) (find p xs) (find-first xs))
        where
          go : ¬ P x → (o : Option X) → MatchOption o (AllByRecursion (λ y. ¬ P y) xs) (IsFirst P xs) → MatchOption o (AllByRecursion (λ y. ¬ P y) (x ∷ xs)) (IsFirst P (x ∷ xs))
          go fails None none = (fails, none)
          go fails (Some y) first = first-later x xs y fails first

  -- the first is contained
  pub first_contains : (P : X → Type 0) (xs : List X) (x : X) → IsFirst P xs x → Contains xs x
  first_contains P xs x first =
      subst (λ (ys : List X). Contains ys x) (sym first.split) (Contains-append_right first.before (x ∷ first.after) x (contains-here x first.after))

  -- ---- a test of all

  pub all_pass : (p : X → Bool) (xs : List X) → list_all p xs ≡ true → (x : X) → Contains xs x → p x ≡ true
  all_pass p [] is x has = absurd (contains-nothing x has)
  all_pass p (y ∷ ys) is x has = by (all_pass p ys (and_parts (p y) (list_all p ys) is).1 x) (contains_cases y ys x has)
    where
      by : (Contains ys x → p x ≡ true) → (y ≡ x) ⊎ Contains ys x → p x ≡ true
      by more (inl same) = subst (λ (z : X). p z ≡ true) same (and_parts (p y) (list_all p ys) is).0
      by more (inr later) = more later

  pub one_fails : (p : X → Bool) (xs : List X) → list_all p xs ≡ false → (x : X) × Contains xs x × (p x ≡ false)
  one_fails p [] is = absurd (true≢false is)
  one_fails p (y ∷ ys) is = by (one_fails p ys) (and_cases (p y) (list_all p ys) is)
    where
      by : (list_all p ys ≡ false → (x : X) × Contains ys x × (p x ≡ false)) → (p y ≡ false) ⊎ (list_all p ys ≡ false) → (x : X) × Contains (y ∷ ys) x × (p x ≡ false)
      by more (inl fails) = (y, contains-here y ys, fails)
      by more (inr later) = let rest = more later in (rest.0, contains-later y ys rest.0 rest.1, rest.2)

  -- ---- there is one first

  ahead : (P : X → Type 0) (a b : X) (s u t v : List X) → s ++ a ∷ u ≡ t ++ b ∷ v → AllByRecursion (λ x. ¬ P x) s → AllByRecursion (λ x. ¬ P x) t → P a → P b → a ≡ b
  ahead P a b [] u [] v same none_a none_b is_a is_b = cc
  ahead P a b [] u (y ∷ t) v same none_a none_b is_a is_b = let here : a ≡ y = cc in absurd (none_b.0 (subst P here is_a))
  ahead P a b (x ∷ s) u [] v same none_a none_b is_a is_b = let here : b ≡ x = cc in absurd (none_a.0 (subst P here is_b))
  ahead P a b (x ∷ s) u (y ∷ t) v same none_a none_b is_a is_b = ahead P a b s u t v (cc) none_a.1 none_b.1 is_a is_b

  pub first_one : (P : X → Type 0) (xs : List X) (a b : X) → IsFirst P xs a → IsFirst P xs b → a ≡ b
  first_one P xs a b f g =
      ahead P a b f.before f.after g.before g.after (sym f.split ∙ g.split) (recursion_from_All (λ (x : X). ¬ P x) f.before f.none)
      (recursion_from_All (λ (x : X). ¬ P x) g.before g.none) f.holds g.holds

  -- where none is there is no first
  pub first_none : (P : X → Type 0) (xs : List X) → AllByRecursion (λ x. ¬ P x) xs → (x : X) → ¬ IsFirst P xs x
  first_none P xs none x first = none_any P xs none (any_from P xs x (first_contains P xs x first) first.holds)
