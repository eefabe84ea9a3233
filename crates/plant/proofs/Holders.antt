-- The operator that lists a modem is the first that does, and in a valid plant the only one.
use Rattle.std.proofs.Common.{◌≡◌, ◌≢◌, ℕ, zero, suc, ◌+◌, ◌≤◌, ◌↔◌, inl, inr, Bool, true, false, ◌||◌, List, [], ◌∷◌, ◌++◌, length, length-append, get_or, AllPairs, Option, Some, None, is_some, refl, sym, subst, ap, ◌∙◌, arith}
use Rattle.plant.proofs.Common.{slice_get, position_from, cases_Bool, false≢true, get_or_append_left, get_or-append-add, Any-from_list_any, Modem, RowFields, is_listed, same_modem, all_modems}
use Rattle.plant.specs.Roster.{holder, ListsFirst}
use Rattle.plant.proofs.Addresses.{same_is_equal, listed_append, some_holder}

pub same_some : {A : Type 0} (x y : A) → ◌≡◌ {A = Option A} (Some x) (Some y) → x ≡ y
same_some x y h = cc

pub true_false : (b : Bool) → b ≡ true → b ≡ false → ⊥
true_false b h k = false≢true (sym k ∙ h)

pub first_least : {A : Type 0} (test : A → Bool) (x : A) (xs : List A) → test x ≡ false → (place : ℕ) → ((i : ℕ) (c : A) → slice_get xs i ≡ Some c → test c ≡ true → place ≤ i)
    → (i : ℕ) (c : A) → slice_get (x ∷ xs) i ≡ Some c → test c ≡ true → suc place ≤ i
first_least test x xs other place least zero c is passes = absurd (true_false (test c) passes (subst (λ y. test y ≡ false) (same_some x c is) other))
first_least test x xs other place least (suc i) c is passes = let h = least i c is passes in omega (arith, h)

-- ---- whose modem a modem is

holder_from : (m : Modem) (n : ℕ) (rows : List RowFields) (i : ℕ) → position_from (λ row. is_listed m row.modems) n rows ≡ Some i
    → (k : ℕ) × (i ≡ n + k) × ListsFirst rows m k
holder_from m n [] i h = cc
holder_from m n (row ∷ rows) i h = elim (cases_Bool (is_listed m row.modems)) [
  | inl listed ↦
      let is : n ≡ i = same_some n i (rw listed at h) in
      (0, omega (arith, is), record { row = row; here = refl; listed = listed; first = λ j other e l. omega arith })
  | inr none ↦
      let rest = holder_from m (n + 1) rows i (rw none at h) in (
        suc rest.0,
        omega (arith, rest.1),
        record {
          row = rest.2.row;
          here = rest.2.here;
          listed = rest.2.listed;
          first = first_least (λ r. is_listed m r.modems) row rows none rest.0 rest.2.first;
        },
      )
]

pub holder_holds : (rows : List RowFields) (m : Modem) (i : ℕ) → holder rows m ≡ Some i → ListsFirst rows m i
holder_holds rows m i h =
    let found = holder_from m 0 rows i h in
    subst (ListsFirst rows m) (let e : found.0 ≡ i = omega (arith, found.1) in e) found.2

-- ---- at most one

both_list : (xs ys : List Modem) (m : Modem) → AllPairs (λ a b. a ≢ b) (xs ++ ys) → is_listed m xs ≡ true → is_listed m ys ≡ true → ⊥
both_list xs ys m apart a b =
    let p = Any-from_list_any (λ x. same_modem x m) xs a in
    let q = Any-from_list_any (λ x. same_modem x m) ys b in
    let here : get_or xs p.0 m ≡ m = subst (λ (z : Modem). get_or xs p.0 z ≡ z) (same_is_equal p.1 m p.4) p.3 in
    let there : get_or ys q.0 m ≡ m = subst (λ (z : Modem). get_or ys q.0 z ≡ z) (same_is_equal q.1 m q.4) q.3 in
    apart p.0 (length xs + q.0) m (omega (arith, p.2)) (omega (arith, q.2, length-append xs ys))
    (get_or_append_left xs ys m p.0 p.2 ∙ here ∙ sym there ∙ sym (get_or-append-add xs ys q.0 m))

or_true : (b : Bool) → (b || true) ≡ true
or_true true = refl
or_true false = refl

listed_in_row : (rows : List RowFields) (i : ℕ) (row : RowFields) (m : Modem) → slice_get rows i ≡ Some row → is_listed m row.modems ≡ true → is_listed m (all_modems rows) ≡ true
listed_in_row [] i row m e h = let f : ◌≡◌ {A = Option RowFields} None (Some row) = e in cc
listed_in_row (r ∷ rows) zero row m e h =
    let here : is_listed m r.modems ≡ true = subst (λ (x : RowFields). is_listed m x.modems ≡ true) (sym (same_some r row e)) h in
    listed_append m r.modems (all_modems rows) ∙ rw here refl
listed_in_row (r ∷ rows) (suc i) row m e h =
    listed_append m r.modems (all_modems rows) ∙ (let rest = listed_in_row rows i row m e h in rw rest (or_true (is_listed m r.modems)))

apart_behind : (xs ys : List Modem) → AllPairs (λ a b. a ≢ b) (xs ++ ys) → AllPairs (λ a b. a ≢ b) ys
apart_behind xs ys h i j d lt more e =
    h (length xs + i) (length xs + j) d (omega (arith, lt)) (omega (arith, more, length-append xs ys))
    (get_or-append-add xs ys i d ∙ e ∙ sym (get_or-append-add xs ys j d))

pub one_lists : (rows : List RowFields) (m : Modem) (i j : ℕ) (a b : RowFields) → AllPairs (λ a b. a ≢ b) (all_modems rows)
    → slice_get rows i ≡ Some a → slice_get rows j ≡ Some b → is_listed m a.modems ≡ true → is_listed m b.modems ≡ true → i ≡ j
one_lists [] m i j a b apart e f g h = let x : ◌≡◌ {A = Option RowFields} None (Some a) = e in cc
one_lists (r ∷ rows) m zero zero a b apart e f g h = refl
one_lists (r ∷ rows) m zero (suc j) a b apart e f g h =
    absurd (both_list r.modems (all_modems rows) m apart
    (subst (λ (x : RowFields). is_listed m x.modems ≡ true) (sym (same_some r a e)) g) (listed_in_row rows j b m f h))
one_lists (r ∷ rows) m (suc i) zero a b apart e f g h =
    absurd (both_list r.modems (all_modems rows) m apart
    (subst (λ (x : RowFields). is_listed m x.modems ≡ true) (sym (same_some r b f)) h) (listed_in_row rows i a m e g))
one_lists (r ∷ rows) m (suc i) (suc j) a b apart e f g h = ap suc (one_lists rows m i j a b (apart_behind r.modems (all_modems rows) apart) e f g h)

by_holder : (rows : List RowFields) (m : Modem) (i : ℕ) (o : Option ℕ) → holder rows m ≡ o → ListsFirst rows m i → holder rows m ≡ Some i
by_holder rows m i None e s =
    let listed = listed_in_row rows i s.row m s.here s.listed in
    absurd (false≢true (ap (is_some {T = ℕ}) (sym e) ∙ some_holder m 0 rows ∙ listed))
by_holder rows m i (Some k) e s =
    let there = holder_holds rows m k e in
    let low = s.first k there.row there.here there.listed in
    let high = there.first i s.row s.here s.listed in
    e ∙ ap (λ (n : ℕ). Some n) (let same : k ≡ i = omega (arith, low, high) in same)

pub holder_is : (rows : List RowFields) (m : Modem) (i : ℕ) → (holder rows m ≡ Some i) ↔ ListsFirst rows m i
holder_is rows m i = (holder_holds rows m i, by_holder rows m i (holder rows m) refl)
