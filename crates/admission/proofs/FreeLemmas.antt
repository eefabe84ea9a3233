-- What `least_free_of` answers, and what one window of marks says of it.
use Rattle.std.proofs.Common.{◌≡◌, ℕ, zero, suc, ◌+◌, ◌-◌, ◌<◌, ◌≤◌, Bool, true, false, cond, not, List, length, get_or, take, min, Option, Some, None, IsSome, IsNone, IfSome, ◌↔◌, ◌⊎◌, inl, inr, refl, sym, ap, subst, ◌∙◌, arith, position}
use Rattle.admission.proofs.Common.{Contains, position_or_len, cases_Bool, cases_lt, cases_eq, both_ways, ltb-false, not-true, not-false, false≢true, get_or-take, length-take-le, fails_before_first, IsWindow}
use Rattle.std.specs.Cmp.{unsigned_Decides}
use Rattle.std.proofs.lemmas.Option.{none-some, same_Some}
use Rattle.std.proofs.lemmas.Map.Made.{is_member-Decides}
use Rattle.std.proofs.lemmas.List.Quantifiers.{position-Some}
use Rattle.admission.specs.Free.{Numbers, IsIn, IsFree, IsLeastFree, is_used, first_free, least_free_of}

-- the test says whether the list contains the number
pub used_from_test : (used : List ℕ) (n : ℕ) → is_used used n ≡ true → Contains used n
used_from_test used n = (is_member-Decides unsigned_Decides used n).0

pub test_from_used : (used : List ℕ) (n : ℕ) → Contains used n → is_used used n ≡ true
test_from_used used n = (is_member-Decides unsigned_Decides used n).1

-- the two cases of one step
pub first_free_used : (count n : ℕ) (used : List ℕ) → is_used used n ≡ true → first_free (suc count) n used ≡ first_free count (suc n) used
unfolding first_free
first_free_used count n used h = ap (λ b. elim b as (λ _. Option ℕ) [ true ↦ first_free count (suc n) used | false ↦ Some n ]) h

pub first_free_unused : (count n : ℕ) (used : List ℕ) → is_used used n ≡ false → first_free (suc count) n used ≡ Some n
unfolding first_free
first_free_unused count n used h = ap (λ b. elim b as (λ _. Option ℕ) [ true ↦ first_free count (suc n) used | false ↦ Some n ]) h

pub first_free_zero : (n : ℕ) (used : List ℕ) → first_free zero n used ≡ None
unfolding first_free
first_free_zero n used = refl

-- the first number from n on that is not used, of `count` numbers
pub record IsFirst (count n : ℕ) (used : List ℕ) (k : ℕ) : Type 0 where
  pub from : n ≤ k
  pub below : k < n + count
  pub unused : is_used used k ≡ false
  pub before : (m : ℕ) → n ≤ m → m < k → is_used used m ≡ true

-- each of `count` numbers from n on is used
abbrev pub AreUsed : ℕ → ℕ → List ℕ → Type 0
AreUsed count n used = (m : ℕ) → n ≤ m → m < n + count → is_used used m ≡ true

before_later : (n : ℕ) (used : List ℕ) → is_used used n ≡ true → (P : ℕ → Type 0) → ((m : ℕ) → suc n ≤ m → P m → is_used used m ≡ true) → (m : ℕ) → n ≤ m → P m → is_used used m ≡ true
before_later n used h P later m le p = elim (cases_eq m n) [ inl e ↦ rw e h | inr ne ↦ later m (omega arith) p ]

-- either there is a first one, or each is used
pub first_free_cases : (count n : ℕ) (used : List ℕ) → ((k : ℕ) × (first_free count n used ≡ Some k) × IsFirst count n used k) ⊎ ((first_free count n used ≡ None) × AreUsed count n used)
first_free_cases zero n used = inr (first_free_zero n used, λ m le lt. absurd (omega arith))
first_free_cases (suc count) n used = elim (cases_Bool (is_used used n)) [
  | inl h ↦ elim (first_free_cases count (suc n) used) [
    | inl (k, is, first) ↦ inl (
      k,
      first_free_used count n used h ∙ is,
      record {
        from = omega (arith, first.from);
        below = omega (arith, first.below);
        unused = first.unused;
        before = before_later n used h (λ m. m < k) first.before;
      },
    )
    | inr (is, all) ↦ inr (first_free_used count n used h ∙ is, λ m le lt. before_later n used h (λ m. m < suc n + count) all m le (omega arith))
  ]
  | inr h ↦ inl (
    n,
    first_free_unused count n used h,
    record {
      from = omega arith;
      below = omega arith;
      unused = h;
      before = λ m le lt. absurd (omega arith);
    },
  )
]

-- numbers that are used are passed over
pub first_free_past : (width count n : ℕ) (used : List ℕ) → AreUsed width n used → first_free (width + count) n used ≡ first_free count (n + width) used
first_free_past zero count n used all =
    let a : zero + count ≡ count = omega arith in
    let b : n + zero ≡ n = omega arith in
    rw (a, b)
first_free_past (suc width) count n used all =
    let a : suc width + count ≡ suc (width + count) = omega arith in
    let b : n + suc width ≡ suc n + width = omega arith in
    rw (a, b)
    (first_free_used (width + count) n used (all n (omega arith) (omega arith))
    ∙ first_free_past width count (suc n) used (λ m le lt. all m (omega arith) (omega arith)))

-- ---- the function and the relation

pub IsFree-from_first : (range : Numbers) (used : List ℕ) (k : ℕ) → IsFirst (suc range.last - range.first) range.first used k → IsLeastFree range used k
IsFree-from_first range used k first = record {
  free = record {
    first_at_most = first.from;
    at_most_last = omega (arith, first.from, first.below);
    unused = λ has. both_ways _ first.unused (test_from_used used k has);
  };
  least = λ m free. elim (cases_lt m k) [
    | inl lt ↦ absurd (free.unused (used_from_test used m (first.before m free.first_at_most lt)))
    | inr le ↦ le
  ];
}

none_free_from_used : (range : Numbers) (used : List ℕ) → AreUsed (suc range.last - range.first) range.first used → (n : ℕ) → IsFree range used n → ⊥
none_free_from_used range used all n free = free.unused (used_from_test used n (all n free.first_at_most (omega (arith, free.at_most_last, free.first_at_most))))

pub least_free_cases : (range : Numbers) (used : List ℕ) → ((k : ℕ) × (least_free_of range used ≡ Some k) × IsLeastFree range used k) ⊎ ((least_free_of range used ≡ None) × ((n : ℕ) → IsFree range used n → ⊥))
unfolding least_free_of
least_free_cases range used = elim (first_free_cases (suc range.last - range.first) range.first used) [
  | inl (k, is, first) ↦ inl (k, is, IsFree-from_first range used k first)
  | inr (is, all) ↦ inr (is, none_free_from_used range used all)
]

pub least_free_found : (range : Numbers) (used : List ℕ) (r : Option ℕ) → r ≡ least_free_of range used → IfSome r (IsLeastFree range used)
least_free_found range used r e = elim (least_free_cases range used) [
  | inl (k, is, free) ↦ rw (e ∙ is) free
  | inr (is, none) ↦ rw (e ∙ is) tt
]

pub least_free_none : (range : Numbers) (used : List ℕ) (r : Option ℕ) → r ≡ least_free_of range used → IsNone r ↔ ((n : ℕ) → IsFree range used n → ⊥)
least_free_none range used r e = elim (least_free_cases range used) [
  | inl (k, is, free) ↦ rw (e ∙ is) (λ no. absurd (false≢true (sym no)), λ none. absurd (none k free.free))
  | inr (is, none) ↦ rw (e ∙ is) (λ _. none, λ _. refl)
]

pub least_free_one : (range : Numbers) (used : List ℕ) (a b : ℕ) → IsLeastFree range used a → IsLeastFree range used b → a ≡ b
least_free_one range used a b p q = omega (arith, p.least b q.free, q.least a p.free)

pub least_free_iff : (range : Numbers) (used : List ℕ) (n : ℕ) → (least_free_of range used ≡ Some n) ↔ IsLeastFree range used n
least_free_iff range used n = elim (least_free_cases range used) [
  | inl (k, is, free) ↦
      (λ e. subst (IsLeastFree range used) (same_Some k n (sym is ∙ e)) free, λ least. is ∙ ap (λ (m : ℕ). Some m) (least_free_one range used k n free least))
  | inr (is, none) ↦ (λ e. absurd (none-some n (sym is ∙ e)), λ least. absurd (none n least.free))
]

pub unused_given : (range : Numbers) (used : List ℕ) (n : ℕ) → IsIn range n → ¬ Contains used n → IsSome (least_free_of range used)
unused_given range used n within unused = elim (least_free_cases range used) [
  | inl (k, is, free) ↦ rw is refl
  | inr (is, none) ↦ absurd (none n (record { first_at_most = within.0; at_most_last = within.1; unused = unused }))
]

-- ---- one window of marks

module _ (taken : List Bool) (used : List ℕ) (base width : ℕ) (window : IsWindow used base taken) (narrow : width ≤ 128) where
  mark_at : (place : ℕ) (b : Bool) → place < width → get_or (take width taken) place false ≡ b → is_used used (base + place) ≡ b
  mark_at place b lt h = sym (window.marks place (omega arith)) ∙ (sym (get_or-take width taken place false lt) ∙ h)

  length_window : length (take width taken) ≡ width
  length_window = length-take-le width taken (omega (arith, window.long))

  all_used_below : (i : ℕ) → i ≤ width → ((k : ℕ) → k < i → not (get_or (take width taken) k false) ≡ false) → AreUsed i base used
  all_used_below i le fails m from below =
      let place : m ≡ base + (m - base) = omega arith in
      rw place (mark_at (m - base) true (omega arith) (not-false _ (fails (m - base) (omega arith))))

  -- an unmarked place is the answer
  pub first_free_window : (rest i : ℕ) → position not (take width taken) ≡ Some i → first_free (width + rest) base used ≡ Some (base + i)
  first_free_window rest i h =
      let at = position-Some not (take width taken) i false h in
      let lt : i < width = omega (arith, at.0, length_window) in
      let split : width + rest ≡ i + suc (width - suc i + rest) = omega arith in
      rw split
      (first_free_past i (suc (width - suc i + rest)) base used (all_used_below i (omega arith) at.2)
      ∙ first_free_unused (width - suc i + rest) (base + i) used (mark_at i false lt (not-true _ at.1)))

  -- no unmarked place: the answer comes later
  pub first_free_full : (rest : ℕ) → position not (take width taken) ≡ None → first_free (width + rest) base used ≡ first_free rest (base + width) used
  first_free_full rest h =
      first_free_past width rest base used (all_used_below width (omega arith) (λ k lt. fails_before_first not (take width taken) k false (within k lt)))
    where
      past : (b : Bool) → cond b (Some (position_or_len not (take width taken))) None ≡ None → b ≡ false
      past true e = absurd (none-some _ (sym e))
      past false e = refl

      within : (k : ℕ) → k < width → k < position_or_len not (take width taken)
      within k lt = omega (arith, ltb-false _ _ (past _ h), length_window)

-- ---- the answers of the search by windows

-- the search has come to `base`: what is left decides
pub record IsPassed (range : Numbers) (used : List ℕ) (base : ℕ) : Type 0 where
  pub first_at_most : range.first ≤ base
  pub at_most_last : base ≤ range.last
  pub passed : first_free (suc range.last - base) base used ≡ least_free_of range used

pub IsPassed-first : (range : Numbers) (used : List ℕ) → range.first ≤ range.last → IsPassed range used range.first
unfolding least_free_of
IsPassed-first range used ordered = record { first_at_most = omega arith; at_most_last = ordered; passed = refl }

module _ (range : Numbers) (used : List ℕ) (base : ℕ) (so_far : IsPassed range used base) (taken : List Bool) (window : IsWindow used base taken) (width : ℕ) (wide : width ≡ min (range.last - base) 127) where
  pub found_in_window : (i : ℕ) → position not (take (width + 1) taken) ≡ Some i → Some (base + i) ≡ least_free_of range used
  found_in_window i h =
      let split : suc range.last - base ≡ (width + 1) + (range.last - base - width) = omega (arith, so_far.at_most_last) in
      sym (first_free_window taken used base (width + 1) window (omega arith) (range.last - base - width) i h) ∙ rw split at so_far.passed

  pub none_in_range : range.last - base < 128 → position not (take (width + 1) taken) ≡ None → None ≡ least_free_of range used
  none_in_range few h =
      let split : suc range.last - base ≡ (width + 1) + zero = omega (arith, so_far.at_most_last) in
      sym (first_free_full taken used base (width + 1) window (omega arith) zero h ∙ first_free_zero _ used) ∙ rw split at so_far.passed

  pub IsPassed-more : 128 ≤ range.last - base → position not (take (width + 1) taken) ≡ None → IsPassed range used (base + 128)
  IsPassed-more many h =
      let split : suc range.last - base ≡ (width + 1) + (suc range.last - (base + 128)) = omega (arith, so_far.at_most_last) in
      let next : base + (width + 1) ≡ base + 128 = omega arith in
      record {
        first_at_most = omega (arith, so_far.first_at_most);
        at_most_last = omega arith;
        passed = sym (rw next at (first_free_full taken used base (width + 1) window (omega arith) (suc range.last - (base + 128)) h)) ∙ rw split at so_far.passed;
      }
