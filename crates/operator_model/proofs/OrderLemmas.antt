-- Entries under numbers: an insert and a removal keep their order, and how many there are.
use Rattle.std.proofs.Common.{◌≡◌, ℕ, ◌+◌, ◌<◌, ◌≤◌, Bool, true, false, cond, List, [], ◌∷◌, length, ◌⊎◌, Some, None, sym, ap, ◌∙◌, subst, arith, inl, inr}
use Rattle.std.specs.List.Sorted.{IsStrictlySortedBy}
use Rattle.operator_model.proofs.Common.{Ordering, Less, Equal, Greater, nat_cmp, is_eq, match_ordering, remove_entry, keys_of, insert_entry, is_at, cases_order, All-from_recursion, recursion_from_All, All-keys-insert_entry, All-map-remove_entry}
use Rattle.operator_model.proofs.MapLemmas.{nat_cmp_less, nat_cmp_equal, nat_cmp_greater, lower, Ascends, at, at-above, put_as, found_as}

module _ {X : Type 0} where
  -- ---- the order

  pub ascending-insert : (es : List (ℕ × X)) (k : ℕ) (v : X) → Ascends es → Ascends (insert_entry nat_cmp es k v)
  unfolding IsStrictlySortedBy
  ascending-insert [] k v s = (tt, tt)
  ascending-insert (e ∷ es) k v s = by (ascending-insert es k v s.1) (cases_order k e.0)
    where
      by : Ascends (insert_entry nat_cmp es k v) → (k ≡ e.0) ⊎ ((k < e.0) ⊎ (e.0 < k)) → Ascends (insert_entry nat_cmp (e ∷ es) k v)
      by more (inl same) = subst Ascends (sym (put_as e es k v Equal (nat_cmp_equal k e.0 same))) s
      by more (inr (inl below)) = subst Ascends (sym (put_as e es k v Less (nat_cmp_less k e.0 below))) ((nat_cmp_less k e.0 below, lower k e.0 (keys_of es) below s.0), s)
      by more (inr (inr above)) = subst Ascends (sym (put_as e es k v Greater (nat_cmp_greater k e.0 above)))
          (recursion_from_All _ _ (All-keys-insert_entry nat_cmp k v (λ y. nat_cmp e.0 y ≡ Less) es (All-from_recursion _ _ s.0) (nat_cmp_less e.0 k above)), more)

  pub ascending-remove : (es : List (ℕ × X)) (k : ℕ) → Ascends es → Ascends (remove_entry (is_at (nat_cmp k)) es)
  unfolding IsStrictlySortedBy
  ascending-remove [] k s = tt
  ascending-remove (e ∷ es) k s =
      elim (is_eq (nat_cmp k e.0)) as (λ b. Ascends (cond b es (e ∷ remove_entry (is_at (nat_cmp k)) es))) [
        | true ↦ s.1
        | false ↦ (recursion_from_All _ _ (All-map-remove_entry (is_at (nat_cmp k)) (λ x. x.0) (λ y. nat_cmp e.0 y ≡ Less) es (All-from_recursion _ _ s.0)), ascending-remove es k s.1)
      ]

  -- ---- how many

  pub length-insert : (es : List (ℕ × X)) (k : ℕ) (v : X) → length (insert_entry nat_cmp es k v) ≤ length es + 1
  length-insert [] k v = omega arith
  length-insert (e ∷ es) k v = by (length-insert es k v) (nat_cmp k e.0)
    where
      by : length (insert_entry nat_cmp es k v) ≤ length es + 1 → (o : Ordering) → length (match_ordering o ((k, v) ∷ e ∷ es) ((e.0, v) ∷ es) (e ∷ insert_entry nat_cmp es k v)) ≤ length (e ∷ es) + 1
      by more Less = omega arith
      by more Equal = omega arith
      by more Greater = omega arith

  pub length-insert_there : (es : List (ℕ × X)) (k : ℕ) (v w : X) → Ascends es → at k es ≡ Some w → length (insert_entry nat_cmp es k v) ≡ length es
  unfolding IsStrictlySortedBy
  length-insert_there [] k v w s there = absurd cc
  length-insert_there (e ∷ es) k v w s there = by (length-insert_there es k v w s.1) (cases_order k e.0)
    where
      by : (at k es ≡ Some w → length (insert_entry nat_cmp es k v) ≡ length es) → (k ≡ e.0) ⊎ ((k < e.0) ⊎ (e.0 < k)) → length (insert_entry nat_cmp (e ∷ es) k v) ≡ length (e ∷ es)
      by more (inl same) = ap length (put_as e es k v Equal (nat_cmp_equal k e.0 same))
      by more (inr (inl below)) =
          let none : at k (e ∷ es) ≡ None = at-above (e ∷ es) k (nat_cmp_less k e.0 below, lower k e.0 (keys_of es) below s.0) in
          absurd cc
      by more (inr (inr above)) =
          let rest : at k es ≡ Some w = sym (found_as e es k false (ap is_eq (nat_cmp_greater k e.0 above))) ∙ there in
          ap length (put_as e es k v Greater (nat_cmp_greater k e.0 above)) ∙ omega (arith, more rest)

  pub length-remove : (es : List (ℕ × X)) (k : ℕ) → length (remove_entry (is_at (nat_cmp k)) es) ≤ length es
  length-remove [] k = omega arith
  length-remove (e ∷ es) k = by (length-remove es k) (is_at (nat_cmp k) e.0)
    where
      by : length (remove_entry (is_at (nat_cmp k)) es) ≤ length es → (b : Bool) → length (cond b es (e ∷ remove_entry (is_at (nat_cmp k)) es)) ≤ length (e ∷ es)
      by more true = omega arith
      by more false = omega arith
