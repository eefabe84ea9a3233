-- Lists, and the first of a list that something holds of.
use Rattle.std.proofs.Common.{◌≡◌, ℕ, ◌<◌, List, [], ◌∷◌, ◌++◌, append_assoc, length, Option, Some, refl, sym, ap, ◌∙◌, subst, arith}
use Rattle.slice_table.proofs.FileKeysLemmas.Common.{AllByRecursion, All-nil, All-cons, recursion_from_All, IsFirst}

pub some_same : {X : Type 0} (x y : X) → ◌≡◌ {A = Option X} (Some x) (Some y) → x ≡ y
some_same x y h = cc

-- an element of a list that has a place
pub one_of : {X : Type 0} (xs : List X) (k : ℕ) → k < length xs → X
one_of [] k lt = absurd (omega (arith, lt))
one_of (x ∷ xs) k lt = x

module _ {X : Type 0} (P : X → Type 0) where
  abbrev pub None : List X → Type 0
  None xs = AllByRecursion (λ x. ¬ P x) xs

  pub none-append : (xs ys : List X) → None xs → None ys → None (xs ++ ys)
  none-append [] ys none rest = rest
  none-append (x ∷ xs) ys none rest = (none.0, none-append xs ys none.1 rest)

  pub first-here : (x : X) (xs : List X) → P x → IsFirst P (x ∷ xs) x
  first-here x xs holds = record { before = []; after = xs; split = refl; none = All-nil (λ y. ¬ P y); holds = holds }

  first-later : (x : X) (xs : List X) (y : X) → ¬ P x → IsFirst P xs y → IsFirst P (x ∷ xs) y
  first-later x xs y fails first = record {
    before = x ∷ first.before;
    after = first.after;
    split = ap (λ ys. x ∷ ys) first.split;
    none = All-cons (λ z. ¬ P z) x first.before fails first.none;
    holds = first.holds;
  }

  pub first-behind : (xs ys : List X) (y : X) → None xs → IsFirst P ys y → IsFirst P (xs ++ ys) y
  first-behind [] ys y none first = first
  first-behind (x ∷ xs) ys y none first = first-later x (xs ++ ys) y none.0 (first-behind xs ys y none.1 first)

  pub first-before : (xs ys : List X) (x : X) → IsFirst P xs x → IsFirst P (xs ++ ys) x
  first-before xs ys x first = record {
    before = first.before;
    after = first.after ++ ys;
    split = ap (λ zs. zs ++ ys) first.split ∙ append_assoc first.before (x ∷ first.after) ys;
    none = first.none;
    holds = first.holds;
  }

  -- there is one first
  ahead : (a b : X) (s u t v : List X) → s ++ a ∷ u ≡ t ++ b ∷ v → None s → None t → P a → P b → a ≡ b
  ahead a b [] u [] v same none_a none_b is_a is_b = cc
  ahead a b [] u (y ∷ t) v same none_a none_b is_a is_b = let here : a ≡ y = cc in absurd (none_b.0 (subst P here is_a))
  ahead a b (x ∷ s) u [] v same none_a none_b is_a is_b = let here : b ≡ x = cc in absurd (none_a.0 (subst P here is_b))
  ahead a b (x ∷ s) u (y ∷ t) v same none_a none_b is_a is_b = ahead a b s u t v (cc) none_a.1 none_b.1 is_a is_b

  pub first_one : (xs : List X) (a b : X) → IsFirst P xs a → IsFirst P xs b → a ≡ b
  first_one xs a b f g =
      ahead a b f.before f.after g.before g.after (sym f.split ∙ g.split) (recursion_from_All (λ (x : X). ¬ P x) f.before f.none)
      (recursion_from_All (λ (x : X). ¬ P x) g.before g.none) f.holds g.holds

  -- where none is there is no first
  pub none-first : (xs : List X) (x : X) → None xs → IsFirst P xs x → ⊥
  none-first xs x none first = go first.before (subst None first.split none)
    where
      go : (before : List X) → None (before ++ x ∷ first.after) → ⊥
      go [] all = all.0 first.holds
      go (y ∷ ys) all = go ys all.1
