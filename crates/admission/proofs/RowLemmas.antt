-- That the edits of a map keep the order, and what a row that is found says.
use Rattle.std.proofs.Common.{◌≡◌, ℕ, ◌<◌, true, false, cond, List, [], ◌∷◌, Result, Ok, Err, IfOk, IfErr, OnOk, OnErr, IsNone, refl, sym, subst, arith, inl, inr}
use Rattle.admission.proofs.Common.{AllByRecursion, nat_cmp, is_eq, lookup, remove_entry, keys_of, insert_entry, is_at, cases_order, ranked, All-from_recursion, recursion_from_All, All-keys-insert_entry, All-map-remove_entry, Budget, IsAscending, HasRow, StandsAt, IsGap}
use Rattle.std.specs.List.Sorted.{IsStrictlySortedBy}
use Rattle.std.specs.declared.cmp.Ordering.TheVariants.{Less, Equal, Greater}
use Rattle.admission.proofs.PlaceLemmas.{nat_cmp_less, nat_cmp_equal, nat_cmp_greater, put_as}

pub ascending_none : IsAscending []
unfolding IsStrictlySortedBy
ascending_none = tt

-- an insert keeps the order
pub ascending-insert_entry : (rows : List (ℕ × Budget)) (k : ℕ) (v : Budget) → IsAscending rows → IsAscending (insert_entry nat_cmp rows k v)
unfolding IsStrictlySortedBy
ascending-insert_entry [] k v s = (tt, tt)
ascending-insert_entry (e ∷ es) k v s = elim (cases_order k e.0) [
  | inl same ↦ subst IsAscending (sym (put_as e es k v Equal (nat_cmp_equal k e.0 same))) s
  | inr (inl below) ↦ subst IsAscending (sym (put_as e es k v Less (nat_cmp_less k e.0 below)))
      ((nat_cmp_less k e.0 below, lower (keys_of es) below s.0), s)
  | inr (inr above) ↦ subst IsAscending (sym (put_as e es k v Greater (nat_cmp_greater k e.0 above)))
      (recursion_from_All _ _ (All-keys-insert_entry nat_cmp k v (λ y. nat_cmp e.0 y ≡ Less) es (All-from_recursion _ _ s.0) (nat_cmp_less e.0 k above)), ascending-insert_entry es k v s.1)
]
  where
    lower : (ks : List ℕ) → k < e.0 → AllByRecursion (λ y. nat_cmp e.0 y ≡ Less) ks → AllByRecursion (λ y. nat_cmp k y ≡ Less) ks
    lower [] below a = tt
    lower (x ∷ xs) below a =
        let lt : e.0 < x = ranked e.0 x Less (sym a.0) in
        (nat_cmp_less k x (omega arith), lower xs below a.1)

-- a removal keeps the order
pub ascending-remove_entry : (rows : List (ℕ × Budget)) (k : ℕ) → IsAscending rows → IsAscending (remove_entry (is_at (nat_cmp k)) rows)
unfolding IsStrictlySortedBy
ascending-remove_entry [] k s = tt
ascending-remove_entry (e ∷ es) k s =
    elim (is_eq (nat_cmp k e.0)) as (λ b. IsAscending (cond b es (e ∷ remove_entry (is_at (nat_cmp k)) es))) [
      | true ↦ s.1
      | false ↦ (recursion_from_All _ _ (All-map-remove_entry (is_at (nat_cmp k)) (λ x. x.0) (λ y. nat_cmp e.0 y ≡ Less) es (All-from_recursion _ _ s.0)), ascending-remove_entry es k s.1)
    ]

-- where a row of the SFID stands it is found, and at a gap it is not
pub there_from_found : (rows : List (ℕ × Budget)) (k : ℕ) (r : Result ℕ ℕ) → IfOk r (StandsAt rows k) → OnOk r (HasRow rows k)
there_from_found rows k (Ok at) found = rw (found.there (0, record { minislots = 0; elements = 0 })) refl
there_from_found rows k (Err at) found = tt

pub free_from_absent : (rows : List (ℕ × Budget)) (k : ℕ) (r : Result ℕ ℕ) → IfErr r (IsGap rows k) → OnErr r (IsNone (lookup (is_at (nat_cmp k)) rows))
free_from_absent rows k (Ok at) absent = tt
free_from_absent rows k (Err at) absent = rw absent.absent refl
