-- Entries under numbers: sums, what holds of each, and a part that is read of each.
use Rattle.std.proofs.Common.{◌≡◌, ℕ, ◌+◌, ◌<◌, Bool, true, false, cond, List, [], ◌∷◌, ◌⊎◌, Option, Some, None, All, filter_map, find, sum_by, unwrap_or, option_map, refl, sym, ap, ◌∙◌, subst, arith, inl, inr}
use Rattle.operator_model.proofs.Common.{AllByRecursion, cons_option, Less, Equal, Greater, nat_cmp, is_eq, remove_entry, keys_of, values_of, insert_entry, is_at, cases_order, cases_eq, nat_cmp_total, All-head, All-tail, sum_by-cons, none-some}
use Rattle.std.specs.List.Sorted.{IsStrictlySortedBy}
use Rattle.std.proofs.lemmas.Map.Entries.{sum_by-insert_entry, sum_by-remove_entry}
use Rattle.operator_model.proofs.MapLemmas.{nat_cmp_less, nat_cmp_equal, nat_cmp_greater, is_at_other, Ascends, at, at-above, lower, put_as, found_as, taken_as}

module _ {X : Type 0} where
  -- ---- sums over the values

  module _ (f : X → ℕ) where
    sum_by-values_of : (es : List (ℕ × X)) → sum_by f (values_of es) ≡ sum_by (λ e. f e.1) es
    sum_by-values_of [] = refl
    sum_by-values_of (e ∷ es) = sum_by-cons f e.1 (values_of es) ∙ (ap (λ n. f e.1 + n) (sum_by-values_of es) ∙ sym (sum_by-cons (λ e. f e.1) e es))

    pub sum-insert : (es : List (ℕ × X)) (k : ℕ) (v : X) → Ascends es → sum_by (λ e. f e.1) (insert_entry nat_cmp es k v) + unwrap_or (option_map f (at k es)) 0 ≡ sum_by (λ e. f e.1) es + f v
    sum-insert es k v s = omega (arith, sum_by-values_of (insert_entry nat_cmp es k v), sum_by-values_of es, sum_by-insert_entry f nat_cmp_total es k v s)

    pub sum-remove : (es : List (ℕ × X)) (k : ℕ) → sum_by (λ e. f e.1) (remove_entry (is_at (nat_cmp k)) es) + unwrap_or (option_map f (at k es)) 0 ≡ sum_by (λ e. f e.1) es
    sum-remove es k = omega (arith, sum_by-values_of (remove_entry (is_at (nat_cmp k)) es), sum_by-values_of es, sum_by-remove_entry f (is_at (nat_cmp k)) es)

  -- ---- what holds of each

  -- what holds of each number holds of one that is found
  pub All-at : (P : ℕ → Type 0) (es : List (ℕ × X)) (k : ℕ) (v : X) → All P (keys_of es) → at k es ≡ Some v → P k
  All-at P [] k v a there = absurd cc
  All-at P (e ∷ es) k v a there = by (All-at P es k v (All-tail P e.0 (keys_of es) a)) (cases_eq k e.0)
    where
      by : (at k es ≡ Some v → P k) → (k ≡ e.0) ⊎ (k ≡ e.0 → ⊥) → P k
      by more (inl same) = subst P (sym same) (All-head P e.0 (keys_of es) a)
      by more (inr other) = more (sym (found_as e es k false (is_at_other k e.0 other)) ∙ there)

  -- ---- a part that is read of each

  module _ {Y : Type 0} (read : ℕ × X → Option Y) where
    -- another value under a number, of which the same is read
    pub read-insert : (es : List (ℕ × X)) (k : ℕ) (v w : X) → Ascends es → at k es ≡ Some w → read (k, v) ≡ read (k, w) → filter_map read (insert_entry nat_cmp es k v) ≡ filter_map read es
    unfolding IsStrictlySortedBy
    read-insert [] k v w s there same = absurd cc
    read-insert (e ∷ es) k v w s there same = by (read-insert es k v w s.1) (cases_order k e.0)
      where
        by : (at k es ≡ Some w → read (k, v) ≡ read (k, w) → filter_map read (insert_entry nat_cmp es k v) ≡ filter_map read es) → (k ≡ e.0) ⊎ ((k < e.0) ⊎ (e.0 < k))
            → filter_map read (insert_entry nat_cmp (e ∷ es) k v) ≡ filter_map read (e ∷ es)
        by more (inl here) =
            let value : e.1 ≡ w = cc (sym (found_as e es k true (ap is_eq (nat_cmp_equal k e.0 here))) ∙ there) in
            ap (filter_map read) (put_as e es k v Equal (nat_cmp_equal k e.0 here))
            ∙ ap (λ (o : Option Y). cons_option o (filter_map read es)) (ap (λ (n : ℕ). read (n, v)) (sym here) ∙ (same ∙ (ap (λ (n : ℕ). read (n, w)) here ∙ ap (λ (x : X). read (e.0, x)) (sym value))))
        by more (inr (inl below)) =
            let none : at k (e ∷ es) ≡ None = at-above (e ∷ es) k (nat_cmp_less k e.0 below, lower k e.0 (keys_of es) below s.0) in
            absurd cc
        by more (inr (inr above)) =
            let rest : at k es ≡ Some w = sym (found_as e es k false (ap is_eq (nat_cmp_greater k e.0 above))) ∙ there in
            ap (filter_map read) (put_as e es k v Greater (nat_cmp_greater k e.0 above)) ∙ ap (λ (ys : List Y). cons_option (read e) ys) (more rest same)

    -- a value goes of which nothing is read
    pub read-remove : (es : List (ℕ × X)) (k : ℕ) (w : X) → at k es ≡ Some w → read (k, w) ≡ None → filter_map read (remove_entry (is_at (nat_cmp k)) es) ≡ filter_map read es
    read-remove [] k w there none = refl
    read-remove (e ∷ es) k w there none = by (read-remove es k w) (cases_eq k e.0)
      where
        by : (at k es ≡ Some w → read (k, w) ≡ None → filter_map read (remove_entry (is_at (nat_cmp k)) es) ≡ filter_map read es) → (k ≡ e.0) ⊎ (k ≡ e.0 → ⊥)
            → filter_map read (remove_entry (is_at (nat_cmp k)) (e ∷ es)) ≡ filter_map read (e ∷ es)
        by more (inl here) =
            let value : e.1 ≡ w = cc (sym (found_as e es k true (ap is_eq (nat_cmp_equal k e.0 here))) ∙ there) in
            ap (filter_map read) (taken_as e es k true (ap is_eq (nat_cmp_equal k e.0 here)))
            ∙ ap (λ (o : Option Y). cons_option o (filter_map read es)) (sym none ∙ (ap (λ (n : ℕ). read (n, w)) here ∙ ap (λ (x : X). read (e.0, x)) (sym value)))
        by more (inr other) =
            let rest : at k es ≡ Some w = sym (found_as e es k false (is_at_other k e.0 other)) ∙ there in
            ap (filter_map read) (taken_as e es k false (is_at_other k e.0 other)) ∙ ap (λ (ys : List Y). cons_option (read e) ys) (more rest none)

  -- an entry that is found by a test stands under its number
  pub at-find : (p : ℕ × X → Bool) (es : List (ℕ × X)) (x : ℕ × X) → Ascends es → find p es ≡ Some x → at x.0 es ≡ Some x.1
  unfolding IsStrictlySortedBy
  at-find p [] x s found = absurd cc
  at-find p (e ∷ es) x s found = by (at-find p es x s.1) (p e) found (cases_order x.0 e.0)
    where
      by : (find p es ≡ Some x → at x.0 es ≡ Some x.1) → (b : Bool) → cond b (Some e) (find p es) ≡ Some x → (x.0 ≡ e.0) ⊎ ((x.0 < e.0) ⊎ (e.0 < x.0)) → at x.0 (e ∷ es) ≡ Some x.1
      by more true here order =
          let same : e ≡ x = cc in
          found_as e es x.0 true (ap is_eq (nat_cmp_equal x.0 e.0 (ap (λ (y : ℕ × X). y.0) (sym same)))) ∙ ap (λ (y : ℕ × X). Some y.1) same
      by more false later (inl same) =
          let none : at x.0 es ≡ None = at-above es x.0 (subst (λ (n : ℕ). AllByRecursion (λ y. nat_cmp n y ≡ Less) (keys_of es)) (sym same) s.0) in
          absurd (none-some x.1 (sym none ∙ more later))
      by more false later (inr (inl below)) = found_as e es x.0 false (ap is_eq (nat_cmp_less x.0 e.0 below)) ∙ more later
      by more false later (inr (inr above)) = found_as e es x.0 false (ap is_eq (nat_cmp_greater x.0 e.0 above)) ∙ more later
