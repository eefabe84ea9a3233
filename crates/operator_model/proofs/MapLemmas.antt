-- Entries under numbers, ascending: what an insert and a removal leave.
use Rattle.std.proofs.Common.{◌≡◌, ℕ, ◌<◌, Bool, true, false, cond, List, [], ◌∷◌, ◌⊎◌, Option, Some, None, refl, sym, ap, ◌∙◌, subst, arith, inl, inr}
use Rattle.operator_model.proofs.Common.{AllByRecursion, Ordering, Less, Equal, Greater, nat_cmp, is_eq, match_ordering, lookup, remove_entry, keys_of, insert_entry, is_at, lt-ltb, le-ltb, eq-eqb, ne_eqb, cases_order, cases_eq, ranked}
use Rattle.std.specs.List.Sorted.{IsStrictlySortedBy}

-- ---- the answers of a comparison

pub nat_cmp_less : (a b : ℕ) → a < b → nat_cmp a b ≡ Less
nat_cmp_less a b h = rw (lt-ltb a b h)

pub nat_cmp_equal : (a b : ℕ) → a ≡ b → nat_cmp a b ≡ Equal
nat_cmp_equal a b h = rw (le-ltb a b (omega arith), eq-eqb a b h)

pub nat_cmp_greater : (a b : ℕ) → b < a → nat_cmp a b ≡ Greater
nat_cmp_greater a b h = rw (le-ltb a b (omega arith), ne_eqb a b (omega arith))

pub is_at_same : (k : ℕ) → is_at (nat_cmp k) k ≡ true
is_at_same k = ap is_eq (nat_cmp_equal k k refl)

pub is_at_other : (q k : ℕ) → (q ≡ k → ⊥) → is_at (nat_cmp q) k ≡ false
is_at_other q k apart = by (cases_order q k)
  where
    by : (q ≡ k) ⊎ ((q < k) ⊎ (k < q)) → is_at (nat_cmp q) k ≡ false
    by (inl same) = absurd (apart same)
    by (inr (inl below)) = ap is_eq (nat_cmp_less q k below)
    by (inr (inr above)) = ap is_eq (nat_cmp_greater q k above)

-- what is above a number is above a smaller one
pub lower : (k m : ℕ) (ks : List ℕ) → k < m → AllByRecursion (λ y. nat_cmp m y ≡ Less) ks → AllByRecursion (λ y. nat_cmp k y ≡ Less) ks
lower k m [] below a = tt
lower k m (x ∷ xs) below a =
    let lt : m < x = ranked m x Less (sym a.0) in
    (nat_cmp_less k x (omega arith), lower k m xs below a.1)

-- the numbers rise
abbrev pub Ascends : {X : Type 0} → List (ℕ × X) → Type 0
Ascends es = IsStrictlySortedBy nat_cmp (keys_of es)

module _ {X : Type 0} where
  -- what is found under a number
  abbrev pub at : ℕ → List (ℕ × X) → Option X
  at q es = lookup (is_at (nat_cmp q)) es

  -- ---- one step of each word, at the first entry

  module _ (e : ℕ × X) (es : List (ℕ × X)) (k : ℕ) where
    pub put_as : (v : X) (o : Ordering) → nat_cmp k e.0 ≡ o → insert_entry nat_cmp (e ∷ es) k v ≡ match_ordering o ((k, v) ∷ e ∷ es) ((e.0, v) ∷ es) (e ∷ insert_entry nat_cmp es k v)
    put_as v o h = ap (λ (r : Ordering). match_ordering r ((k, v) ∷ e ∷ es) ((e.0, v) ∷ es) (e ∷ insert_entry nat_cmp es k v)) h

    pub found_as : (b : Bool) → is_at (nat_cmp k) e.0 ≡ b → at k (e ∷ es) ≡ cond b (Some e.1) (at k es)
    found_as b h = ap (λ (r : Bool). cond r (Some e.1) (at k es)) h

    pub taken_as : (b : Bool) → is_at (nat_cmp k) e.0 ≡ b → remove_entry (is_at (nat_cmp k)) (e ∷ es) ≡ cond b es (e ∷ remove_entry (is_at (nat_cmp k)) es)
    taken_as b h = ap (λ (r : Bool). cond r es (e ∷ remove_entry (is_at (nat_cmp k)) es)) h

  -- ---- what is found

  pub at-insert_same : (es : List (ℕ × X)) (k : ℕ) (v : X) → at k (insert_entry nat_cmp es k v) ≡ Some v
  at-insert_same [] k v = found_as (k, v) [] k true (is_at_same k)
  at-insert_same (e ∷ es) k v = by (at-insert_same es k v) (cases_order k e.0)
    where
      by : at k (insert_entry nat_cmp es k v) ≡ Some v → (k ≡ e.0) ⊎ ((k < e.0) ⊎ (e.0 < k)) → at k (insert_entry nat_cmp (e ∷ es) k v) ≡ Some v
      by more (inl same) = ap (at k) (put_as e es k v Equal (nat_cmp_equal k e.0 same)) ∙ found_as (e.0, v) es k true (ap is_eq (nat_cmp_equal k e.0 same))
      by more (inr (inl below)) = ap (at k) (put_as e es k v Less (nat_cmp_less k e.0 below)) ∙ found_as (k, v) (e ∷ es) k true (is_at_same k)
      by more (inr (inr above)) =
          ap (at k) (put_as e es k v Greater (nat_cmp_greater k e.0 above))
          ∙ (found_as e (insert_entry nat_cmp es k v) k false (ap is_eq (nat_cmp_greater k e.0 above)) ∙ more)

  module _ (q k : ℕ) (apart : q ≡ k → ⊥) where
    pub at-insert_other : (es : List (ℕ × X)) (v : X) → at q (insert_entry nat_cmp es k v) ≡ at q es
    at-insert_other [] v = found_as (k, v) [] q false (is_at_other q k apart)
    at-insert_other (e ∷ es) v = by (at-insert_other es v) (cases_order k e.0)
      where
        by : at q (insert_entry nat_cmp es k v) ≡ at q es → (k ≡ e.0) ⊎ ((k < e.0) ⊎ (e.0 < k)) → at q (insert_entry nat_cmp (e ∷ es) k v) ≡ at q (e ∷ es)
        by more (inl same) =
            ap (at q) (put_as e es k v Equal (nat_cmp_equal k e.0 same))
            ∙ (found_as (e.0, v) es q false (is_at_other q e.0 (λ h. apart (h ∙ sym same))) ∙ sym (found_as e es q false (is_at_other q e.0 (λ h. apart (h ∙ sym same)))))
        by more (inr (inl below)) = ap (at q) (put_as e es k v Less (nat_cmp_less k e.0 below)) ∙ found_as (k, v) (e ∷ es) q false (is_at_other q k apart)
        by more (inr (inr above)) =
            ap (at q) (put_as e es k v Greater (nat_cmp_greater k e.0 above))
            ∙ ap (λ (rest : Option X). cond (is_at (nat_cmp q) e.0) (Some e.1) rest) more

    pub at-remove_other : (es : List (ℕ × X)) → at q (remove_entry (is_at (nat_cmp k)) es) ≡ at q es
    at-remove_other [] = refl
    at-remove_other (e ∷ es) = by (at-remove_other es) (cases_eq k e.0)
      where
        by : at q (remove_entry (is_at (nat_cmp k)) es) ≡ at q es → (k ≡ e.0) ⊎ (k ≡ e.0 → ⊥) → at q (remove_entry (is_at (nat_cmp k)) (e ∷ es)) ≡ at q (e ∷ es)
        by more (inl same) =
            ap (at q) (taken_as e es k true (ap is_eq (nat_cmp_equal k e.0 same)))
            ∙ sym (found_as e es q false (is_at_other q e.0 (λ h. apart (h ∙ sym same))))
        by more (inr other) =
            ap (at q) (taken_as e es k false (is_at_other k e.0 other))
            ∙ ap (λ (rest : Option X). cond (is_at (nat_cmp q) e.0) (Some e.1) rest) more

  -- nothing is found below the first number
  pub at-above : (es : List (ℕ × X)) (k : ℕ) → AllByRecursion (λ y. nat_cmp k y ≡ Less) (keys_of es) → at k es ≡ None
  at-above [] k above = refl
  at-above (e ∷ es) k above = found_as e es k false (ap is_eq above.0) ∙ at-above es k above.1

  pub at-remove_same : (es : List (ℕ × X)) (k : ℕ) → Ascends es → at k (remove_entry (is_at (nat_cmp k)) es) ≡ None
  unfolding IsStrictlySortedBy
  at-remove_same [] k s = refl
  at-remove_same (e ∷ es) k s = by (at-remove_same es k s.1) (cases_eq k e.0)
    where
      by : at k (remove_entry (is_at (nat_cmp k)) es) ≡ None → (k ≡ e.0) ⊎ (k ≡ e.0 → ⊥) → at k (remove_entry (is_at (nat_cmp k)) (e ∷ es)) ≡ None
      by more (inl same) =
          ap (at k) (taken_as e es k true (ap is_eq (nat_cmp_equal k e.0 same)))
          ∙ at-above es k (subst (λ (n : ℕ). AllByRecursion (λ y. nat_cmp n y ≡ Less) (keys_of es)) (sym same) s.0)
      by more (inr other) =
          ap (at k) (taken_as e es k false (is_at_other k e.0 other))
          ∙ (found_as e (remove_entry (is_at (nat_cmp k)) es) k false (is_at_other k e.0 other) ∙ more)
