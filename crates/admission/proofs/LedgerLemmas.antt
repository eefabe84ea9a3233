-- What a ledger keeps, after each change.
use Rattle.std.proofs.Common.{◌≡◌, ℕ, ◌+◌, ◌*◌, ◌<◌, ◌≤◌, ◌^◌, List, [], ◌∷◌, length, get_or, set, sum_by, Option, Some, None, unwrap_or, option_map, All, refl, sym, ap, ◌∙◌, subst, arith}
use Rattle.admission.proofs.Common.{insert, remove, nat_cmp, lookup, remove_entry, values_of, insert_entry, is_at, nat_cmp_total, All-nil, All-weaker, length-set, sum_by-cons, sum_by-le, All-values-insert_entry, All-map-remove_entry, Budget, IsAscending, FitsU32, total_minislots, total_elements, StandsAt, IsGap}
use Rattle.std.proofs.lemmas.List.Edits.{length-insert, length-remove}
use Rattle.std.proofs.lemmas.Map.Entries.{sum_by-insert_entry, sum_by-remove_entry, length-values_of}
use Rattle.admission.specs.Kept.{IsLedger, CanReplace}
use Rattle.admission.proofs.RowLemmas.{ascending_none, ascending-insert_entry, ascending-remove_entry}

-- no minislots and no elements
abbrev pub nothing : Budget
nothing = record { minislots = 0; elements = 0 }

-- the budget of a flow, or nothing
abbrev pub budget_at : List (ℕ × Budget) → ℕ → Budget
budget_at rows k = unwrap_or (lookup (is_at (nat_cmp k)) rows) nothing

-- a sum over the rows is one over their values
sum_by-values_of : (f : Budget → ℕ) (rows : List (ℕ × Budget)) → sum_by f (values_of rows) ≡ sum_by (λ row. f row.1) rows
sum_by-values_of f [] = refl
sum_by-values_of f (e ∷ es) = sum_by-cons f e.1 (values_of es) ∙ (ap (λ n. f e.1 + n) (sum_by-values_of f es) ∙ sym (sum_by-cons (λ row. f row.1) e es))

weighed : (f : Budget → ℕ) (o : Option Budget) → f nothing ≡ 0 → unwrap_or (option_map f o) 0 ≡ f (unwrap_or o nothing)
weighed f None e = sym e
weighed f (Some v) e = refl

-- the sums after an insert and after a removal
pub sum-insert_entry : (f : Budget → ℕ) → f nothing ≡ 0 → (rows : List (ℕ × Budget)) (k : ℕ) (v : Budget) → IsAscending rows → sum_by (λ row. f row.1) (insert_entry nat_cmp rows k v) + f (budget_at rows k) ≡ sum_by (λ row. f row.1) rows + f v
sum-insert_entry f e rows k v s =
    let after = sum_by-values_of f (insert_entry nat_cmp rows k v) in
    let before = sum_by-values_of f rows in
    let old = weighed f (lookup (is_at (nat_cmp k)) rows) e in
    omega (arith, after, before, old, sum_by-insert_entry f nat_cmp_total rows k v s)

pub sum-remove_entry : (f : Budget → ℕ) → f nothing ≡ 0 → (rows : List (ℕ × Budget)) (k : ℕ) → sum_by (λ row. f row.1) (remove_entry (is_at (nat_cmp k)) rows) + f (budget_at rows k) ≡ sum_by (λ row. f row.1) rows
sum-remove_entry f e rows k =
    let after = sum_by-values_of f (remove_entry (is_at (nat_cmp k)) rows) in
    let before = sum_by-values_of f rows in
    let old = weighed f (lookup (is_at (nat_cmp k)) rows) e in
    omega (arith, after, before, old, sum_by-remove_entry f (is_at (nat_cmp k)) rows)

pub IsLedger-empty : (room capacity : ℕ) → room < 2 ^ 32 → capacity ≡ room → IsLedger room [] capacity 0 0
IsLedger-empty room capacity small e = record {
  small = small;
  ascending = ascending_none;
  within = omega arith;
  reserved = omega arith;
  numbers = All-nil FitsU32;
  minislots_are = refl;
  elements_are = refl;
}

module _ {room : ℕ} {rows : List (ℕ × Budget)} {capacity minislots elements : ℕ} (kept : IsLedger room rows capacity minislots elements) where
  -- a sum of numbers below 2 ^ 32 over fewer than 2 ^ 32 rows
  sum_small : (f : Budget → ℕ) → ((b : Budget) → FitsU32 b → f b < 2 ^ 32) → sum_by (λ row. f row.1) rows ≤ 4294967295 * 4294967295
  sum_small f fits =
      let all : All (λ b. f b ≤ 4294967295) (values_of rows) = All-weaker FitsU32 (λ b. f b ≤ 4294967295) (λ b h. omega (arith, fits b h)) (values_of rows) kept.numbers in
      omega (arith, sum_by-values_of f rows, sum_by-le f 4294967295 (values_of rows) all, length-values_of rows, kept.within, kept.small)

  -- the totals, with a row in place of the old one
  pub minislots-insert_entry : (k m : ℕ) (v : Budget) → m + (budget_at rows k).minislots ≡ minislots + v.minislots → m ≡ total_minislots (insert_entry nat_cmp rows k v)
  minislots-insert_entry k m v e = omega (arith, kept.minislots_are, sum-insert_entry (λ b. b.minislots) refl rows k v kept.ascending)

  pub elements-insert_entry : (k m : ℕ) (v : Budget) → m + (budget_at rows k).elements ≡ elements + v.elements → m ≡ total_elements (insert_entry nat_cmp rows k v)
  elements-insert_entry k m v e = omega (arith, kept.elements_are, sum-insert_entry (λ b. b.elements) refl rows k v kept.ascending)

  -- the totals have the budget of each flow in them
  pub CanReplace-budget_at : (k : ℕ) → CanReplace minislots elements (budget_at rows k)
  CanReplace-budget_at k = record {
    minislots_in = omega (arith, kept.minislots_are, sum-remove_entry (λ b. b.minislots) refl rows k);
    elements_in = omega (arith, kept.elements_are, sum-remove_entry (λ b. b.elements) refl rows k);
    minislots_room = omega (arith, kept.minislots_are, sum_small (λ b. b.minislots) (λ b h. h.minislots));
    elements_room = omega (arith, kept.elements_are, sum_small (λ b. b.elements) (λ b h. h.elements));
  }

  -- a row is put in: a new one, or in place of the old one
  inserted : (k : ℕ) (v : Budget) (after : List (ℕ × Budget)) (places m n : ℕ) → after ≡ insert_entry nat_cmp rows k v → length after ≤ room → capacity ≤ places → FitsU32 v
      → m + (budget_at rows k).minislots ≡ minislots + v.minislots → n + (budget_at rows k).elements ≡ elements + v.elements → IsLedger room after places m n
  inserted k v after places m n is within more fits sum_m sum_n = subst (λ l. IsLedger room l places m n) (sym is) (record {
    small = kept.small;
    ascending = ascending-insert_entry rows k v kept.ascending;
    within = omega (arith, ap length is);
    reserved = omega (arith, kept.reserved);
    numbers = All-values-insert_entry nat_cmp k v FitsU32 rows kept.numbers fits;
    minislots_are = minislots-insert_entry k m v sum_m;
    elements_are = elements-insert_entry k n v sum_n;
  })

  module _ (k place : ℕ) (gap : IsGap rows k place) where
    none_there : budget_at rows k ≡ nothing
    none_there = ap (λ o. unwrap_or o nothing) gap.absent

    pub CanReplace-gap : CanReplace minislots elements nothing
    CanReplace-gap = subst (CanReplace minislots elements) none_there (CanReplace-budget_at k)

    pub IsLedger-add : (v : Budget) (places m n : ℕ) → length rows < room → capacity ≤ places → FitsU32 v → m + 0 ≡ minislots + v.minislots → n + 0 ≡ elements + v.elements → IsLedger room (insert rows place (k, v)) places m n
    IsLedger-add v places m n few more fits sum_m sum_n =
        inserted k v (insert rows place (k, v)) places m n (gap.inserted v) (omega (arith, length-insert rows place (k, v) gap.in_range)) more fits
        (ap (λ (b : Budget). m + b.minislots) none_there ∙ sum_m) (ap (λ (b : Budget). n + b.elements) none_there ∙ sum_n)

  module _ (k place : ℕ) (row : StandsAt rows k place) (old : ℕ × Budget) (read : old ≡ get_or rows place old) where
    old_there : budget_at rows k ≡ old.1
    old_there = ap (λ o. unwrap_or o nothing) (row.there old) ∙ ap (λ (r : ℕ × Budget). r.1) (sym read)

    pub CanReplace-row : CanReplace minislots elements old.1
    CanReplace-row = subst (CanReplace minislots elements) old_there (CanReplace-budget_at k)

    pub IsLedger-change : (v : Budget) (m n : ℕ) → FitsU32 v → m + old.1.minislots ≡ minislots + v.minislots → n + old.1.elements ≡ elements + v.elements → IsLedger room (set rows place (k, v)) capacity m n
    IsLedger-change v m n fits sum_m sum_n =
        inserted k v (set rows place (k, v)) capacity m n (row.written v) (omega (arith, length-set rows place (k, v), kept.within)) (omega arith) fits
        (ap (λ (b : Budget). m + b.minislots) old_there ∙ sum_m) (ap (λ (b : Budget). n + b.elements) old_there ∙ sum_n)

    pub IsLedger-remove : (m n : ℕ) → m + old.1.minislots ≡ minislots + 0 → n + old.1.elements ≡ elements + 0 → IsLedger room (remove rows place) capacity m n
    IsLedger-remove m n sum_m sum_n = subst (λ l. IsLedger room l capacity m n) (sym row.removed) (record {
      small = kept.small;
      ascending = ascending-remove_entry rows k kept.ascending;
      within = omega (arith, ap length row.removed, length-remove rows place row.in_range, kept.within);
      reserved = kept.reserved;
      numbers = All-map-remove_entry (is_at (nat_cmp k)) (λ r. r.1) FitsU32 rows kept.numbers;
      minislots_are = omega (arith, kept.minislots_are, ap (λ (b : Budget). b.minislots) old_there, sum-remove_entry (λ b. b.minislots) refl rows k);
      elements_are = omega (arith, kept.elements_are, ap (λ (b : Budget). b.elements) old_there, sum-remove_entry (λ b. b.elements) refl rows k);
    })
