-- A plant that is read is valid.
use Rattle.std.proofs.Common.{◌≡◌, ◌≢◌, ℕ, ◌≤◌, nat_le, nat_lt, ◌&&◌, Bool, true, false, not, List, [], ◌∷◌, ◌++◌, append-nil, append_assoc, length, get_or, All, AllPairs, find, option_map, Option, Some, None, Ok, inl, inr, zero, suc, refl, sym, subst, ◌∙◌, arith}
use Rattle.slice_table.proofs.Common.{option_or, and_parts, cases_Bool, false≢true, all_pairs_push, Modem, Apart, Slices, Sids, Sfids, ConstsFields, RowFields, PlantFault, SlicesMeet, SidsMeet, SfidsMeet, ModemTwice, TooManyElements, BudgetOverSlice, ProvisionedOver, AreConsts, is_listed, same_modem, DoesFit, count_of, IsPlant, all_modems, most_elements, modem_itself}
use Rattle.std.proofs.lemmas.List.Kept.{AllPairs-cons}
use Rattle.slice_table.specs.Checks.{meets, first_pair, first_meeting, first_again, is_over_slice, is_overfull, sids_needed, minislots_needed, provision_elements, counts_fit, needs_fit, do_fit, first_named, meeting_fault, twice_fault, elements_fault, budget_fault, provisioned_fault, late_fault, rows_fault, unless}
use Rattle.slice_table.proofs.Values.{at_most, none_passes}
use Rattle.slice_table.proofs.RowReading.{AreRows}

-- ---- where there is none

pub or_none : {A : Type 0} (o p : Option A) → option_or o p ≡ None → (o ≡ None) × (p ≡ None)
or_none None p h = (refl, h)
or_none (Some x) p h = cc

pub map_none : {A B : Type 0} (f : A → B) (o : Option A) → option_map f o ≡ None → o ≡ None
map_none f None h = refl
map_none f (Some x) h = cc

pub none_step : {A : Type 0} (test : A → Bool) (x : A) (xs : List A) → find test (x ∷ xs) ≡ None → (test x ≡ false) × (find test xs ≡ None)
none_step test x xs h = elim (cases_Bool (test x)) [
  | inl passes ↦ let e : Some x ≡ None = rw passes at h in cc
  | inr other ↦ (other, rw other at h)
]

pub find_none : {A : Type 0} (test : A → Bool) (xs : List A) → find test xs ≡ None → All (λ x. test x ≡ false) xs
find_none test [] h k d lt = absurd (omega (arith, lt))
find_none test (x ∷ xs) h zero d lt = (none_step test x xs h).0
find_none test (x ∷ xs) h (suc k) d lt = find_none test xs (none_step test x xs h).1 k d (omega (arith, lt))

pub no_pair : {A : Type 0} (test : A → A → Bool) (xs : List A) → first_pair test xs ≡ None → AllPairs (λ a b. test a b ≡ false) xs
no_pair test [] h = λ i j d lt more. absurd (omega (arith, more))
no_pair test (x ∷ xs) h =
    let parts = or_none (option_map (λ y. (x, y)) (find (test x) xs)) (first_pair test xs) h in
    AllPairs-cons (λ a b. test a b ≡ false) x xs (find_none (test x) xs (map_none (λ y. (x, y)) (find (test x) xs) parts.0)) (no_pair test xs parts.1)

-- ---- the addresses

pub told_modems : (a b : Modem) → same_modem a b ≡ false → a ≢ b
told_modems a b h e = false≢true (sym h ∙ subst (λ (m : Modem). same_modem a m ≡ true) e (modem_itself a))

pub passed : (before ms : List Modem) (m : Modem) → first_again before (m ∷ ms) ≡ None → (is_listed m before ≡ false) × (first_again (before ++ m ∷ []) ms ≡ None)
passed before ms m h = elim (cases_Bool (is_listed m before)) [
  | inl known ↦ let e : Some m ≡ None = rw known at h in cc
  | inr new ↦ (new, rw new at h)
]

pub none_twice : (before ms : List Modem) → AllPairs (λ a b. a ≢ b) before → first_again before ms ≡ None → AllPairs (λ a b. a ≢ b) (before ++ ms)
none_twice before [] apart h = rw (append-nil before) apart
none_twice before (m ∷ ms) apart h =
    let step = passed before ms m h in
    let more : AllPairs (λ a b. a ≢ b) (before ++ m ∷ []) = all_pairs_push (λ a b. a ≢ b) before m apart (λ k d lt.
    told_modems (get_or before k d) m (none_passes (λ x. same_modem x m) before k d step.0 lt)) in
    subst (AllPairs (λ a b. a ≢ b)) (append_assoc before (m ∷ []) ms) (none_twice (before ++ m ∷ []) ms more step.1)

-- ---- what is asked of all keys together

pub meeting_none : (rows : List RowFields) → meeting_fault rows ≡ None
    → (first_meeting Slices rows ≡ None) × (first_meeting Sids rows ≡ None) × (first_meeting Sfids rows ≡ None)
unfolding meeting_fault
meeting_none rows h =
    let one = or_none (option_map (λ names. SlicesMeet names.0 names.1) (first_meeting Slices rows)) _ h in
    let two = or_none (option_map (λ names. SidsMeet names.0 names.1) (first_meeting Sids rows)) _ one.1 in (
      map_none (λ names. SlicesMeet names.0 names.1) (first_meeting Slices rows) one.0,
      map_none (λ names. SidsMeet names.0 names.1) (first_meeting Sids rows) two.0,
      map_none (λ names. SfidsMeet names.0 names.1) (first_meeting Sfids rows) two.1,
    )

pub none_meet : (apart : Apart) (rows : List RowFields) → first_meeting apart rows ≡ None → AllPairs (λ a b. meets apart a b ≡ false) rows
unfolding first_meeting
none_meet apart rows h = no_pair (meets apart) rows (map_none (λ pair. (pair.0.name, pair.1.name)) (first_pair (meets apart) rows) h)

pub twice_none : (rows : List RowFields) → twice_fault rows ≡ None → AllPairs (λ a b. a ≢ b) (all_modems rows)
unfolding twice_fault
twice_none rows h = none_twice [] (all_modems rows) (λ i j d lt more. absurd (omega (arith, more))) (map_none ModemTwice (first_again [] (all_modems rows)) h)

pub elements_none : (rows : List RowFields) → elements_fault rows ≡ None → most_elements rows ≤ 240
unfolding elements_fault
elements_none rows h = elim (cases_Bool (nat_le (most_elements rows) 240)) [
  | inl few ↦ at_most (most_elements rows) 240 few
  | inr many ↦ let e : Some (TooManyElements (most_elements rows)) ≡ None = rw many at h in cc
]

not_below : (a b : ℕ) → nat_lt a b ≡ false → b ≤ a
not_below a b h = grind arith

pub budget_none : (rows : List RowFields) → budget_fault rows ≡ None → All (λ row. row.budget ≤ row.slice.length) rows
unfolding budget_fault
budget_none rows h k d lt =
    let none = find_none is_over_slice rows (map_none (λ row. row.name) (find is_over_slice rows) (map_none BudgetOverSlice (first_named is_over_slice rows) h)) in
    not_below (get_or rows k d).slice.length (get_or rows k d).budget (none k d lt)

not_false : (b : Bool) → not b ≡ false → b ≡ true
not_false true h = refl
not_false false h = absurd (false≢true (sym h))

pub fits : (consts : ConstsFields) (row : RowFields) → do_fit consts row ≡ true → DoesFit consts row
unfolding do_fit counts_fit needs_fit sids_needed minislots_needed provision_elements
fits consts row h =
    let parts = and_parts (counts_fit row) (needs_fit consts row) h in
    let counts = and_parts (nat_le (length row.provisions) row.flows) (nat_le (length row.provisions) (count_of row.sfids)) parts.0 in
    let needs = and_parts (nat_le (sids_needed consts row.provisions) (count_of row.sids) && nat_le (minislots_needed consts row.provisions) row.budget) (nat_le (provision_elements consts row.provisions) row.elements) parts.1 in
    let two = and_parts (nat_le (sids_needed consts row.provisions) (count_of row.sids)) (nat_le (minislots_needed consts row.provisions) row.budget) needs.0 in
    record {
      flows = at_most (length row.provisions) row.flows counts.0;
      sfids = at_most (length row.provisions) (count_of row.sfids) counts.1;
      sids = at_most (sids_needed consts row.provisions) (count_of row.sids) two.0;
      minislots = at_most (minislots_needed consts row.provisions) row.budget two.1;
      elements = at_most (provision_elements consts row.provisions) row.elements needs.1;
    }

pub provisioned_none : (consts : ConstsFields) (rows : List RowFields) → provisioned_fault consts rows ≡ None → All (DoesFit consts) rows
unfolding provisioned_fault
provisioned_none consts rows h k d lt =
    let none = find_none (is_overfull consts) rows (map_none (λ row. row.name) (find (is_overfull consts) rows) (map_none ProvisionedOver (first_named (is_overfull consts) rows) h)) in
    fits consts (get_or rows k d) (not_false (do_fit consts (get_or rows k d)) (none k d lt))

-- ---- the plant

-- rows as they are read, with no fault among them, beside what all operators share
pub valid : (consts : ConstsFields) (rows : List RowFields) → AreConsts consts → AreRows consts rows → rows_fault consts rows ≡ None
    → IsPlant (record { consts = consts; rows = rows })
unfolding rows_fault late_fault
valid consts rows shared read none =
    let one = or_none (meeting_fault rows) (option_or (twice_fault rows) (late_fault consts rows)) none in
    let two = or_none (twice_fault rows) (late_fault consts rows) one.1 in
    let three = or_none (elements_fault rows) (option_or (budget_fault rows) (provisioned_fault consts rows)) two.1 in
    let four = or_none (budget_fault rows) (provisioned_fault consts rows) three.1 in
    let apart = meeting_none rows one.0 in
    let budgets = budget_none rows four.0 in
    let fit = provisioned_none consts rows four.1 in
    record {
      consts = shared;
      some = read.some;
      few = read.few;
      rows = λ k d lt. let row = read.each k d lt in record {
        keys = row.keys;
        behind_head = row.behind_head;
        within_frame = row.within_frame;
        provisions = row.provisions;
        budget = budgets k d lt;
        fits = fit k d lt;
      };
      names = read.names;
      slices = none_meet Slices rows apart.0;
      sids = none_meet Sids rows apart.1;
      sfids = none_meet Sfids rows apart.2;
      modems = twice_none rows two.0;
      elements = elements_none rows three.0;
    }

pub no_fault : {A : Type 0} (o : Option PlantFault) (x y : A) → unless o x ≡ Ok y → o ≡ None
no_fault None x y h = refl
no_fault (Some fault) x y h = cc
