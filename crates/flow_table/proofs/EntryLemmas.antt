-- What a list of entries by ascending numbers holds after an edit.
use Rattle.std.proofs.Common.{◌≡◌, ◌≢◌, ℕ, ◌+◌, ◌<◌, ◌≤◌, true, false, cond, List, [], ◌∷◌, length, Option, Some, None, IsSome, IsNone, refl, sym, ap, ◌∙◌, subst, arith, inl, inr}
use Rattle.flow_table.proofs.Common.{AllByRecursion, Ordering, Less, Equal, Greater, nat_cmp, is_eq, match_ordering, lookup, remove_entry, set_value, keys_of, insert_entry, is_at, cases_order, ranked, nat_cmp_total, eq_by_cmp_equiv, All-from_recursion, recursion_from_All, none-some, same_Some, IsDistinct-from_sorted, sorted_tail}
use Rattle.admission.proofs.PlaceLemmas.{nat_cmp_less, nat_cmp_equal, nat_cmp_greater, put_as, look_as, take_out_as}
use Rattle.std.specs.List.Sorted.{IsStrictlySortedBy}
use Rattle.std.proofs.lemmas.Map.{lookup-none}
use Rattle.std.proofs.lemmas.Map.Entries.{none_past_head, none_below_head}
use Rattle.std.proofs.lemmas.Map.Views.{All-keys-insert_entry, All-map-remove_entry}

module _ {X : Type 0} where
  -- ---- what stands at a number

  pub looked_first : (e : ℕ × X) (es : List (ℕ × X)) (k : ℕ) → k ≡ e.0 → lookup (is_at (nat_cmp k)) (e ∷ es) ≡ Some e.1
  looked_first e es k same = look_as e es k Equal (nat_cmp_equal k e.0 same)

  pub looked_past : (e : ℕ × X) (es : List (ℕ × X)) (k : ℕ) → k ≢ e.0 → lookup (is_at (nat_cmp k)) (e ∷ es) ≡ lookup (is_at (nat_cmp k)) es
  looked_past e es k apart = elim (cases_order k e.0) [
    | inl same ↦ absurd (apart same)
    | inr (inl below) ↦ look_as e es k Less (nat_cmp_less k e.0 below)
    | inr (inr above) ↦ look_as e es k Greater (nat_cmp_greater k e.0 above)
  ]

  -- no later entry has the number of the first
  pub none_later : (e : ℕ × X) (es : List (ℕ × X)) → IsStrictlySortedBy nat_cmp (keys_of (e ∷ es)) → lookup (is_at (nat_cmp e.0)) es ≡ None
  none_later e es s =
      lookup-none _ es (none_past_head (eq_by_cmp_equiv nat_cmp_total) e.0 e es (IsDistinct-from_sorted nat_cmp _ s) (ap is_eq (nat_cmp_equal e.0 e.0 refl)))

  -- no entry has a number that is below the first
  pub none_before : (e : ℕ × X) (es : List (ℕ × X)) (k : ℕ) → IsStrictlySortedBy nat_cmp (keys_of (e ∷ es)) → k < e.0 → lookup (is_at (nat_cmp k)) (e ∷ es) ≡ None
  none_before e es k s below = lookup-none _ (e ∷ es) (none_below_head nat_cmp_total k e es s (nat_cmp_less k e.0 below))

  -- ---- an entry is put in

  pub put_here : (es : List (ℕ × X)) (k : ℕ) (v : X) → lookup (is_at (nat_cmp k)) (insert_entry nat_cmp es k v) ≡ Some v
  put_here [] k v = looked_first (k, v) [] k refl
  put_here (e ∷ es) k v = elim (cases_order k e.0) [
    | inl same ↦ ap (lookup (is_at (nat_cmp k))) (put_as e es k v Equal (nat_cmp_equal k e.0 same)) ∙ looked_first (e.0, v) es k same
    | inr (inl below) ↦ ap (lookup (is_at (nat_cmp k))) (put_as e es k v Less (nat_cmp_less k e.0 below)) ∙ looked_first (k, v) (e ∷ es) k refl
    | inr (inr above) ↦
        ap (lookup (is_at (nat_cmp k))) (put_as e es k v Greater (nat_cmp_greater k e.0 above))
        ∙ (looked_past e (insert_entry nat_cmp es k v) k (omega arith) ∙ put_here es k v)
  ]

  pub put_elsewhere : (es : List (ℕ × X)) (k : ℕ) (v : X) (q : ℕ) → q ≢ k → lookup (is_at (nat_cmp q)) (insert_entry nat_cmp es k v) ≡ lookup (is_at (nat_cmp q)) es
  put_elsewhere [] k v q apart = looked_past (k, v) [] q apart
  put_elsewhere (e ∷ es) k v q apart = elim (cases_order k e.0) [
    | inl same ↦
        let other : q ≢ e.0 = omega arith in
        ap (lookup (is_at (nat_cmp q))) (put_as e es k v Equal (nat_cmp_equal k e.0 same)) ∙ (looked_past (e.0, v) es q other ∙ sym (looked_past e es q other))
    | inr (inl below) ↦ ap (lookup (is_at (nat_cmp q))) (put_as e es k v Less (nat_cmp_less k e.0 below)) ∙ looked_past (k, v) (e ∷ es) q apart
    | inr (inr above) ↦
        ap (lookup (is_at (nat_cmp q))) (put_as e es k v Greater (nat_cmp_greater k e.0 above))
        ∙ ap (λ (o : Option X). cond (is_eq (nat_cmp q e.0)) (Some e.1) o) (put_elsewhere es k v q apart)
  ]

  -- ---- an entry is taken out

  pub taken_here : (es : List (ℕ × X)) (k : ℕ) → IsStrictlySortedBy nat_cmp (keys_of es) → lookup (is_at (nat_cmp k)) (remove_entry (is_at (nat_cmp k)) es) ≡ None
  taken_here [] k s = refl
  taken_here (e ∷ es) k s = elim (cases_order k e.0) [
    | inl same ↦
        ap (lookup (is_at (nat_cmp k))) (take_out_as e es k Equal (nat_cmp_equal k e.0 same))
        ∙ (ap (λ (n : ℕ). lookup (is_at (nat_cmp n)) es) same ∙ none_later e es s)
    | inr (inl below) ↦
        ap (lookup (is_at (nat_cmp k))) (take_out_as e es k Less (nat_cmp_less k e.0 below))
        ∙ (looked_past e (remove_entry (is_at (nat_cmp k)) es) k (omega arith) ∙ taken_here es k (sorted_tail nat_cmp e.0 (keys_of es) s))
    | inr (inr above) ↦
        ap (lookup (is_at (nat_cmp k))) (take_out_as e es k Greater (nat_cmp_greater k e.0 above))
        ∙ (looked_past e (remove_entry (is_at (nat_cmp k)) es) k (omega arith) ∙ taken_here es k (sorted_tail nat_cmp e.0 (keys_of es) s))
  ]

  pub taken_elsewhere : (es : List (ℕ × X)) (k q : ℕ) → q ≢ k → lookup (is_at (nat_cmp q)) (remove_entry (is_at (nat_cmp k)) es) ≡ lookup (is_at (nat_cmp q)) es
  taken_elsewhere [] k q apart = refl
  taken_elsewhere (e ∷ es) k q apart = elim (cases_order k e.0) [
    | inl same ↦ ap (lookup (is_at (nat_cmp q))) (take_out_as e es k Equal (nat_cmp_equal k e.0 same)) ∙ sym (looked_past e es q (omega arith))
    | inr (inl below) ↦
        ap (lookup (is_at (nat_cmp q))) (take_out_as e es k Less (nat_cmp_less k e.0 below))
        ∙ ap (λ (o : Option X). cond (is_eq (nat_cmp q e.0)) (Some e.1) o) (taken_elsewhere es k q apart)
    | inr (inr above) ↦
        ap (lookup (is_at (nat_cmp q))) (take_out_as e es k Greater (nat_cmp_greater k e.0 above))
        ∙ ap (λ (o : Option X). cond (is_eq (nat_cmp q e.0)) (Some e.1) o) (taken_elsewhere es k q apart)
  ]

  -- what is not there is not taken out
  pub taken_none : (es : List (ℕ × X)) (k : ℕ) → lookup (is_at (nat_cmp k)) es ≡ None → remove_entry (is_at (nat_cmp k)) es ≡ es
  taken_none [] k none = refl
  taken_none (e ∷ es) k none = elim (cases_order k e.0) [
    | inl same ↦ let h : Some e.1 ≡ None = sym (looked_first e es k same) ∙ none in absurd (cc)
    | inr (inl below) ↦
        take_out_as e es k Less (nat_cmp_less k e.0 below) ∙ ap (λ (l : List (ℕ × X)). e ∷ l) (taken_none es k (sym (looked_past e es k (omega arith)) ∙ none))
    | inr (inr above) ↦
        take_out_as e es k Greater (nat_cmp_greater k e.0 above) ∙ ap (λ (l : List (ℕ × X)). e ∷ l) (taken_none es k (sym (looked_past e es k (omega arith)) ∙ none))
  ]

  -- ---- a value is written

  write_as : (e : ℕ × X) (es : List (ℕ × X)) (k : ℕ) (v : X) (o : Ordering) → nat_cmp k e.0 ≡ o → set_value (is_at (nat_cmp k)) (e ∷ es) v ≡ cond (is_eq o) ((e.0, v) ∷ es) (e ∷ set_value (is_at (nat_cmp k)) es v)
  write_as e es k v o h = ap (λ (r : Ordering). cond (is_eq r) ((e.0, v) ∷ es) (e ∷ set_value (is_at (nat_cmp k)) es v)) h

  pub written : (es : List (ℕ × X)) (k : ℕ) (v : X) → IsStrictlySortedBy nat_cmp (keys_of es) → IsSome (lookup (is_at (nat_cmp k)) es) → set_value (is_at (nat_cmp k)) es v ≡ insert_entry nat_cmp es k v
  written [] k v s there = absurd (cc)
  written (e ∷ es) k v s there = elim (cases_order k e.0) [
    | inl same ↦ write_as e es k v Equal (nat_cmp_equal k e.0 same) ∙ sym (put_as e es k v Equal (nat_cmp_equal k e.0 same))
    | inr (inl below) ↦ let none : IsSome {T = X} None = subst IsSome (none_before e es k s below) there in absurd (cc)
    | inr (inr above) ↦
        write_as e es k v Greater (nat_cmp_greater k e.0 above)
        ∙ (ap (λ (l : List (ℕ × X)). e ∷ l) (written es k v (sorted_tail nat_cmp e.0 (keys_of es) s) (subst IsSome (looked_past e es k (omega arith)) there))
        ∙ sym (put_as e es k v Greater (nat_cmp_greater k e.0 above)))
  ]

  -- what is there is put in again
  pub put_same : (es : List (ℕ × X)) (k : ℕ) (v : X) → IsStrictlySortedBy nat_cmp (keys_of es) → lookup (is_at (nat_cmp k)) es ≡ Some v → insert_entry nat_cmp es k v ≡ es
  put_same [] k v s there = absurd (none-some v there)
  put_same (e ∷ es) k v s there = elim (cases_order k e.0) [
    | inl same ↦
        let value : e.1 ≡ v = same_Some e.1 v (sym (looked_first e es k same) ∙ there) in
        put_as e es k v Equal (nat_cmp_equal k e.0 same) ∙ ap (λ (w : X). (e.0, w) ∷ es) (sym value)
    | inr (inl below) ↦ absurd (none-some v (sym (none_before e es k s below) ∙ there))
    | inr (inr above) ↦
        put_as e es k v Greater (nat_cmp_greater k e.0 above)
        ∙ ap (λ (l : List (ℕ × X)). e ∷ l) (put_same es k v (sorted_tail nat_cmp e.0 (keys_of es) s) (sym (looked_past e es k (omega arith)) ∙ there))
  ]

  -- ---- how many there are

  pub length_put_new : (es : List (ℕ × X)) (k : ℕ) (v : X) → lookup (is_at (nat_cmp k)) es ≡ None → length (insert_entry nat_cmp es k v) ≡ length es + 1
  length_put_new [] k v none = refl
  length_put_new (e ∷ es) k v none = elim (cases_order k e.0) [
    | inl same ↦ let h : Some e.1 ≡ None = sym (looked_first e es k same) ∙ none in absurd (cc)
    | inr (inl below) ↦ ap length (put_as e es k v Less (nat_cmp_less k e.0 below)) ∙ (omega arith)
    | inr (inr above) ↦
        let tail : length (insert_entry nat_cmp es k v) ≡ length es + 1 = length_put_new es k v (sym (looked_past e es k (omega arith)) ∙ none) in
        ap length (put_as e es k v Greater (nat_cmp_greater k e.0 above)) ∙ (omega arith)
  ]

  pub length_put_there : (es : List (ℕ × X)) (k : ℕ) (v : X) → IsStrictlySortedBy nat_cmp (keys_of es) → IsSome (lookup (is_at (nat_cmp k)) es) → length (insert_entry nat_cmp es k v) ≡ length es
  length_put_there [] k v s there = absurd (cc)
  length_put_there (e ∷ es) k v s there = elim (cases_order k e.0) [
    | inl same ↦ ap length (put_as e es k v Equal (nat_cmp_equal k e.0 same))
    | inr (inl below) ↦ let none : IsSome {T = X} None = subst IsSome (none_before e es k s below) there in absurd (cc)
    | inr (inr above) ↦
        let tail : length (insert_entry nat_cmp es k v) ≡ length es = length_put_there es k v (sorted_tail nat_cmp e.0 (keys_of es) s) (subst IsSome (looked_past e es k (omega arith)) there) in
        ap length (put_as e es k v Greater (nat_cmp_greater k e.0 above)) ∙ (omega arith)
  ]

  pub length_put : (es : List (ℕ × X)) (k : ℕ) (v : X) → length (insert_entry nat_cmp es k v) ≤ length es + 1
  length_put [] k v = omega arith
  length_put (e ∷ es) k v =
      elim (nat_cmp k e.0) as (λ (o : Ordering). length (match_ordering o ((k, v) ∷ e ∷ es) ((e.0, v) ∷ es) (e ∷ insert_entry nat_cmp es k v)) ≤ length (e ∷ es) + 1) [
        | Less ↦ omega arith
        | Equal ↦ omega arith
        | Greater ↦ omega (arith, length_put es k v)
      ]

  pub length_taken : (es : List (ℕ × X)) (k : ℕ) → length (remove_entry (is_at (nat_cmp k)) es) ≤ length es
  length_taken [] k = omega arith
  length_taken (e ∷ es) k =
      elim (is_eq (nat_cmp k e.0)) as (λ b. length (cond b es (e ∷ remove_entry (is_at (nat_cmp k)) es)) ≤ length (e ∷ es)) [
        | true ↦ omega arith
        | false ↦ omega (arith, length_taken es k)
      ]

  -- ---- the order

  pub ascending_put : (es : List (ℕ × X)) (k : ℕ) (v : X) → IsStrictlySortedBy nat_cmp (keys_of es) → IsStrictlySortedBy nat_cmp (keys_of (insert_entry nat_cmp es k v))
  unfolding IsStrictlySortedBy
  ascending_put [] k v s = (tt, tt)
  ascending_put (e ∷ es) k v s = elim (cases_order k e.0) [
    | inl same ↦ subst (λ (l : List (ℕ × X)). IsStrictlySortedBy nat_cmp (keys_of l)) (sym (put_as e es k v Equal (nat_cmp_equal k e.0 same))) s
    | inr (inl below) ↦ subst (λ (l : List (ℕ × X)). IsStrictlySortedBy nat_cmp (keys_of l)) (sym (put_as e es k v Less (nat_cmp_less k e.0 below)))
        ((nat_cmp_less k e.0 below, lower (keys_of es) below s.0), s)
    | inr (inr above) ↦ subst (λ (l : List (ℕ × X)). IsStrictlySortedBy nat_cmp (keys_of l)) (sym (put_as e es k v Greater (nat_cmp_greater k e.0 above)))
        (recursion_from_All _ _ (All-keys-insert_entry nat_cmp k v (λ y. nat_cmp e.0 y ≡ Less) es (All-from_recursion _ _ s.0) (nat_cmp_less e.0 k above)), ascending_put es k v s.1)
  ]
    where
      lower : (ks : List ℕ) → k < e.0 → AllByRecursion (λ y. nat_cmp e.0 y ≡ Less) ks → AllByRecursion (λ y. nat_cmp k y ≡ Less) ks
      lower [] below a = tt
      lower (x ∷ xs) below a =
          let lt : e.0 < x = ranked e.0 x Less (sym a.0) in
          (nat_cmp_less k x (omega arith), lower xs below a.1)

  pub ascending_taken : (es : List (ℕ × X)) (k : ℕ) → IsStrictlySortedBy nat_cmp (keys_of es) → IsStrictlySortedBy nat_cmp (keys_of (remove_entry (is_at (nat_cmp k)) es))
  unfolding IsStrictlySortedBy
  ascending_taken [] k s = tt
  ascending_taken (e ∷ es) k s =
      elim (is_eq (nat_cmp k e.0)) as (λ b. IsStrictlySortedBy nat_cmp (keys_of (cond b es (e ∷ remove_entry (is_at (nat_cmp k)) es)))) [
        | true ↦ s.1
        | false ↦ (recursion_from_All _ _ (All-map-remove_entry (is_at (nat_cmp k)) (λ x. x.0) (λ y. nat_cmp e.0 y ≡ Less) es (All-from_recursion _ _ s.0)), ascending_taken es k s.1)
      ]

pub ascending_none : IsStrictlySortedBy nat_cmp []
unfolding IsStrictlySortedBy
ascending_none = tt

pub none_is : {X : Type 0} → (o : Option X) → IsNone o → o ≡ None
none_is None h = refl
none_is (Some x) h = absurd (cc)
