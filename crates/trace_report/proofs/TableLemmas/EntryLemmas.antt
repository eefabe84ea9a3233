-- Entries under numbers, ascending: what stands in the list is what is found under its number.
use Rattle.std.proofs.Common.{◌≡◌, ℕ, true, false, List, [], ◌∷◌, ◌⊎◌, Some, sym, ap, ◌∙◌, subst, inl, inr}
use Rattle.trace_report.proofs.TableLemmas.Common.{Contains, AllByRecursion, nat_cmp, is_eq, keys_of, cases_eq, none-some, nat_cmp_equal, is_at_other, Ascends, at, at-above, found_as}
use Rattle.std.specs.List.Sorted.{IsStrictlySortedBy}
use Rattle.std.specs.declared.cmp.Ordering.TheVariants.{Less}
use Rattle.trace_report.proofs.TableLemmas.ListLemmas.{contains-here, contains-later, contains_cases, contains-nothing}

module _ {X : Type 0} where
  pub at_contains : (es : List (ℕ × X)) (k : ℕ) (v : X) → at k es ≡ Some v → Contains es (k, v)
  at_contains [] k v is = absurd (none-some v is)
  at_contains (e ∷ es) k v is = by (at_contains es k v) (cases_eq k e.0)
    where
      by : (at k es ≡ Some v → Contains es (k, v)) → (k ≡ e.0) ⊎ (k ≡ e.0 → ⊥) → Contains (e ∷ es) (k, v)
      by more (inl same) =
          let value : e.1 ≡ v = cc (sym (found_as e es k true (ap is_eq (nat_cmp_equal k e.0 same))) ∙ is) in
          let whole : e ≡ (k, v) = ap (λ (n : ℕ). (n, e.1)) (sym same) ∙ ap (λ (x : X). (k, x)) value in
          subst (λ (f : ℕ × X). Contains (e ∷ es) f) whole (contains-here e es)
      by more (inr other) = contains-later e es (k, v) (more (sym (found_as e es k false (is_at_other k e.0 other)) ∙ is))

  pub contained_at : (es : List (ℕ × X)) (k : ℕ) (v : X) → Ascends es → Contains es (k, v) → at k es ≡ Some v
  unfolding IsStrictlySortedBy
  contained_at [] k v s has = absurd (contains-nothing (k, v) has)
  contained_at (e ∷ es) k v s has = by (contained_at es k v s.1) (contains_cases e es (k, v) has) (cases_eq k e.0)
    where
      by : (Contains es (k, v) → at k es ≡ Some v) → (e ≡ (k, v)) ⊎ Contains es (k, v) → (k ≡ e.0) ⊎ (k ≡ e.0 → ⊥) → at k (e ∷ es) ≡ Some v
      by more (inl whole) c =
          found_as e es k true (ap is_eq (nat_cmp_equal k e.0 (sym (ap (λ (f : ℕ × X). f.0) whole)))) ∙ ap (λ (f : ℕ × X). Some f.1) whole
      by more (inr rest) (inl same) =
          absurd (none-some v (sym (at-above es k (subst (λ (n : ℕ). AllByRecursion (λ y. nat_cmp n y ≡ Less) (keys_of es)) (sym same) s.0)) ∙ more rest))
      by more (inr rest) (inr other) = found_as e es k false (is_at_other k e.0 other) ∙ more rest
