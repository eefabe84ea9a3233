-- The first number that an ascending list of numbers leaves out.
use Rattle.std.proofs.Common.{◌≡◌, ◌≢◌, ◌||◌, ℕ, zero, suc, ◌+◌, ◌-◌, ◌<◌, ◌≤◌, nat_le, nat_eq, true, false, cond, List, [], ◌∷◌, length, Option, Some, None, refl, sym, ap, ◌∙◌, subst, arith, inl, inr}
use Rattle.flow_table.proofs.Common.{All, AllByRecursion, keys_of, Ordering, length-map, recursion_from_All, IsStrictlySortedBy, Less, Equal, Greater, nat_cmp, is_lt, is_gt, cases_order, cases_lt, cases_eq, eq-eqb, ne_eqb, lt-ltb, le-ltb, le-leb, lt-leb, ranked, sorted_head, sorted_tail, gap_from, first_free_past, first_free_unused, first_free_zero}
use Rattle.admission.specs.Free.{Numbers, is_used, first_free, least_free_of}

-- a number that is above the next is left out
pub gap_here : (n k : ℕ) (ks : List ℕ) → n < k → gap_from n (k ∷ ks) ≡ n
gap_here n k ks lt = ap (λ b. cond b n (cond (nat_eq k n) (gap_from (suc n) ks) (gap_from n ks))) (lt-ltb n k lt)

-- the next number is not left out
pub gap_at : (n k : ℕ) (ks : List ℕ) → k ≡ n → gap_from n (k ∷ ks) ≡ gap_from (suc n) ks
gap_at n k ks e =
    ap (λ b. cond b n (cond (nat_eq k n) (gap_from (suc n) ks) (gap_from n ks))) (le-ltb n k (omega arith))
    ∙ ap (λ b. cond b (gap_from (suc n) ks) (gap_from n ks)) (eq-eqb k n e)

-- a number below is passed
pub gap_below : (n k : ℕ) (ks : List ℕ) → k < n → gap_from n (k ∷ ks) ≡ gap_from n ks
gap_below n k ks lt =
    ap (λ b. cond b n (cond (nat_eq k n) (gap_from (suc n) ks) (gap_from n ks))) (le-ltb n k (omega arith))
    ∙ ap (λ b. cond b (gap_from (suc n) ks) (gap_from n ks)) (ne_eqb k n (omega arith))

-- ---- what is used

used_first : (k : ℕ) (ks : List ℕ) (m : ℕ) → m ≡ k → is_used (k ∷ ks) m ≡ true
used_first k ks m e = ap (λ b. b || is_used ks m) (eq-eqb m k e)

used_later : (k : ℕ) (ks : List ℕ) (m : ℕ) → m ≢ k → is_used (k ∷ ks) m ≡ is_used ks m
used_later k ks m d = ap (λ b. b || is_used ks m) (ne_eqb m k d)

none_below : (m : ℕ) (ks : List ℕ) → AllByRecursion (λ k. m < k) ks → is_used ks m ≡ false
none_below m [] all = refl
none_below m (k ∷ ks) all = used_later k ks m (let lt : m < k = all.0 in omega arith) ∙ none_below m ks all.1

all_above : (n m : ℕ) (ks : List ℕ) → n ≤ m → AllByRecursion (λ k. nat_cmp m k ≡ Less) ks → AllByRecursion (λ k. n < k) ks
all_above n m [] le all = tt
all_above n m (k ∷ ks) le all = (let lt : m < k = ranked m k Less (sym all.0) in omega arith, all_above n m ks le all.1)

pub record IsGap (n : ℕ) (ks : List ℕ) (g : ℕ) : Type 0 where
  pub from : n ≤ g
  pub used : (m : ℕ) → n ≤ m → m < g → is_used ks m ≡ true
  pub free : is_used ks g ≡ false

pub gap_is : (n : ℕ) (ks : List ℕ) → IsStrictlySortedBy nat_cmp ks → IsGap n ks (gap_from n ks)
gap_is n [] s = record { from = omega arith; used = λ m le lt. absurd (omega arith); free = refl }
gap_is n (k ∷ ks) s = elim (cases_order n k) [
  | inl same ↦
      let rest = gap_is (suc n) ks (sorted_tail nat_cmp k ks s) in
      let apart : gap_from (suc n) ks ≢ k = omega (arith, rest.from) in
      subst (IsGap n (k ∷ ks)) (sym (gap_at n k ks (sym same))) (record {
        from = omega (arith, rest.from);
        used = λ m le lt. elim (cases_eq m k) [
          | inl here ↦ used_first k ks m here
          | inr other ↦ used_later k ks m other ∙ rest.used m (omega arith) lt
        ];
        free = used_later k ks (gap_from (suc n) ks) apart ∙ rest.free;
      })
  | inr (inl below) ↦
      subst (IsGap n (k ∷ ks)) (sym (gap_here n k ks below)) (record {
        from = omega arith;
        used = λ m le lt. absurd (omega arith);
        free = used_later k ks n (omega arith) ∙ none_below n ks (all_above n k ks (omega arith) (sorted_head nat_cmp k ks s));
      })
  | inr (inr above) ↦
      let rest = gap_is n ks (sorted_tail nat_cmp k ks s) in
      subst (IsGap n (k ∷ ks)) (sym (gap_below n k ks above)) (record {
        from = rest.from;
        used = λ m le lt. used_later k ks m (omega arith) ∙ rest.used m le lt;
        free = used_later k ks (gap_from n ks) (omega (arith, rest.from)) ∙ rest.free;
      })
]

-- ---- the least free number

pub free_is_gap : (range : Numbers) (ks : List ℕ) → IsStrictlySortedBy nat_cmp ks → gap_from range.first ks ≤ range.last → least_free_of range ks ≡ Some (gap_from range.first ks)
unfolding least_free_of
free_is_gap range ks s le =
    let gap = gap_is range.first ks s in
    let g = gap_from range.first ks in
    let split : suc range.last - range.first ≡ (g - range.first) + suc (range.last - g) = omega (arith, gap.from) in
    let place : range.first + (g - range.first) ≡ g = omega (arith, gap.from) in
    rw split
    (first_free_past (g - range.first) (suc (range.last - g)) range.first ks (λ m from below. gap.used m from (omega (arith, gap.from)))
    ∙ ap (λ (n : ℕ). first_free (suc (range.last - g)) n ks) place ∙ first_free_unused (range.last - g) g ks gap.free)

pub none_is_free : (range : Numbers) (ks : List ℕ) → IsStrictlySortedBy nat_cmp ks → range.last < gap_from range.first ks → least_free_of range ks ≡ None
unfolding least_free_of
none_is_free range ks s lt =
    let gap = gap_is range.first ks s in
    let split : suc range.last - range.first ≡ (suc range.last - range.first) + zero = omega arith in
    rw split
    (first_free_past (suc range.last - range.first) zero range.first ks (λ m from below. gap.used m from (omega arith))
    ∙ first_free_zero (range.first + (suc range.last - range.first)) ks)

-- ---- the answers of the walk

pub gap_answer : (range : Numbers) (ks : List ℕ) (n : ℕ) (r : Option ℕ) → IsStrictlySortedBy nat_cmp ks → n ≡ gap_from range.first ks → r ≡ cond (nat_le n range.last) (Some n) None → r ≡ least_free_of range ks
gap_answer range ks n r s is e = elim (cases_lt range.last n) [
  | inl past ↦
      let none = none_is_free range ks s (subst (λ (m : ℕ). range.last < m) is past) in
      e ∙ (ap (λ b. cond b (Some n) None) (lt-leb n range.last past) ∙ sym none)
  | inr le ↦
      let some = free_is_gap range ks s (subst (λ (m : ℕ). m ≤ range.last) is le) in
      e ∙ (ap (λ b. cond b (Some n) None) (le-leb n range.last le) ∙ (ap (λ (m : ℕ). Some m) is ∙ sym some))
]

pub gap_answer_here : (range : Numbers) (ks rest : List ℕ) (n k : ℕ) (r : Option ℕ) → IsStrictlySortedBy nat_cmp ks → gap_from n (k ∷ rest) ≡ gap_from range.first ks → n < k
    → r ≡ cond (nat_le n range.last) (Some n) None → r ≡ least_free_of range ks
gap_answer_here range ks rest n k r s is lt e = gap_answer range ks n r s (sym (gap_here n k rest lt) ∙ is) e

pub gap_answer_end : (range : Numbers) (ks : List ℕ) (n : ℕ) (r : Option ℕ) → IsStrictlySortedBy nat_cmp ks → gap_from n [] ≡ gap_from range.first ks
    → r ≡ cond (nat_le n range.last) (Some n) None → r ≡ least_free_of range ks
gap_answer_end range ks n r s is e = gap_answer range ks n r s is e

-- ---- numbers with no gap

count : (k b : ℕ) (ks : List ℕ) → IsStrictlySortedBy nat_cmp (k ∷ ks) → AllByRecursion (λ q. q < b) (k ∷ ks) → k + length (k ∷ ks) ≤ b
count k b [] s all = let lt : k < b = all.0 in omega arith
count k b (j ∷ ks) s all =
    let above = sorted_head nat_cmp k (j ∷ ks) s in
    let next : k < j = ranked k j Less (sym above.0) in
    let rest : j + length (j ∷ ks) ≤ b = count j b ks (sorted_tail nat_cmp k (j ∷ ks) s) all.1 in
    omega arith

-- so many ascending numbers from f on, all of them below f and their count, leave none out
pub packed_gap : (f : ℕ) (ks : List ℕ) → IsStrictlySortedBy nat_cmp ks → AllByRecursion (λ q. f ≤ q) ks → AllByRecursion (λ q. q < f + length ks) ks → gap_from f ks ≡ f + length ks
packed_gap f [] s low high = omega arith
packed_gap f (k ∷ ks) s low high =
    let fits : k + length (k ∷ ks) ≤ f + length (k ∷ ks) = count k (f + length (k ∷ ks)) ks s high in
    let from : f ≤ k = low.0 in
    let same : k ≡ f = omega arith in
    let sum : f + length (k ∷ ks) ≡ suc f + length ks = omega arith in
    let above : AllByRecursion (λ q. suc f ≤ q) ks = subst (λ (n : ℕ). AllByRecursion (λ q. suc n ≤ q) ks) same (all_above k k ks (omega arith) (sorted_head nat_cmp k ks s)) in
    gap_at f k ks same
    ∙ (packed_gap (suc f) ks (sorted_tail nat_cmp k ks s) above (subst (λ (n : ℕ). AllByRecursion (λ q. q < n) ks) sum high.1) ∙ sym sum)

not_greater : (a b : ℕ) (o : Ordering) → o ≡ nat_cmp a b → is_gt o ≡ false → a ≤ b
not_greater a b Less e h = let lt : a < b = ranked a b Less e in omega arith
not_greater a b Equal e h = let same : a ≡ b = ranked a b Equal e in omega arith
not_greater a b Greater e h = absurd (cc)

not_less : (a b : ℕ) (o : Ordering) → o ≡ nat_cmp a b → is_lt o ≡ false → b ≤ a
not_less a b Less e h = absurd (cc)
not_less a b Equal e h = let same : a ≡ b = ranked a b Equal e in omega arith
not_less a b Greater e h = let gt : b < a = ranked a b Greater e in omega arith

all_from : (f lo : ℕ) (ks : List ℕ) → f ≤ lo → AllByRecursion (λ q. is_gt (nat_cmp lo q) ≡ false) ks → AllByRecursion (λ q. f ≤ q) ks
all_from f lo [] le all = tt
all_from f lo (k ∷ ks) le all = (let at : lo ≤ k = not_greater lo k (nat_cmp lo k) refl all.0 in omega arith, all_from f lo ks le all.1)

all_below : (hi n : ℕ) (ks : List ℕ) → hi < n → AllByRecursion (λ q. is_lt (nat_cmp hi q) ≡ false) ks → AllByRecursion (λ q. q < n) ks
all_below hi n [] lt all = tt
all_below hi n (k ∷ ks) lt all = (let at : k ≤ hi = not_less hi k (nat_cmp hi k) refl all.0 in omega arith, all_below hi n ks lt all.1)

pub packed_keys : {X : Type 0} (es : List (ℕ × X)) (f lo hi : ℕ) → IsStrictlySortedBy nat_cmp (keys_of es) → All (λ q. is_gt (nat_cmp lo q) ≡ false) (keys_of es) → All (λ q. is_lt (nat_cmp hi q) ≡ false) (keys_of es)
    → f ≤ lo → f ≤ hi → hi - f + 1 ≡ length es → hi + 1 ≡ gap_from f (keys_of es)
packed_keys {X} es f lo hi s low high from to len =
    let count_is : length (keys_of es) ≡ length es = length-map es (λ (e : ℕ × X). e.0) in
    let end : hi + 1 ≡ f + length (keys_of es) = omega arith in
    end ∙ sym (packed_gap f (keys_of es) s (all_from f lo (keys_of es) from (recursion_from_All _ (keys_of es) low)) (all_below hi (f + length (keys_of es)) (keys_of es) (omega arith) (recursion_from_All _ (keys_of es) high)))
