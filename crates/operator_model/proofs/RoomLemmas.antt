-- A number of a range is free while fewer are used than it has.
use Rattle.std.proofs.Common.{◌≡◌, ℕ, zero, suc, ◌+◌, ◌<◌, ◌≤◌, true, false, List, length, ◌⊎◌, Option, Some, None, IsSome, is_some, sym, ap, ◌∙◌, arith, inl, inr}
use Rattle.std.specs.Prelude.{nat_eq}
use Rattle.std.specs.List.{AllByRecursion, IsDistinct, range_with_len}
use Rattle.std.specs.Set.{is_member}
use Rattle.operator_model.proofs.Common.{or_cases, eqb-true, ne_eqb, true_from_ne_false, false≢true, nat_eq_equiv, Numbers, IsFree, IsLeastFree, is_used, least_free_of, count_of}
use Rattle.std.proofs.lemmas.Map.Made.{length-le_from_is_member}
use Rattle.std.proofs.lemmas.List.FromFn.{length-range_with_len}
use Rattle.admission.proofs.FreeLemmas.{test_from_used, least_free_cases, least_free_iff}

-- ---- the numbers of a range

later-apart : (n a count : ℕ) → n < a → AllByRecursion (λ y. nat_eq n y ≡ false) (range_with_len a count)
later-apart n a zero lt = tt
later-apart n a (suc count) lt = (ne_eqb n a (omega arith), later-apart n (a + 1) count (omega arith))

range-IsDistinct : (a count : ℕ) → IsDistinct nat_eq (range_with_len a count)
unfolding IsDistinct
range-IsDistinct a zero = tt
range-IsDistinct a (suc count) = (later-apart a (a + 1) count (omega arith), range-IsDistinct (a + 1) count)

in_range : (q a count : ℕ) → is_member nat_eq (range_with_len a count) q ≡ true → (a ≤ q) × (q < a + count)
in_range q a zero is = absurd (false≢true is)
in_range q a (suc count) is = by (in_range q (a + 1) count) (or_cases (nat_eq q a) (is_member nat_eq (range_with_len (a + 1) count) q) is)
  where
    by : (is_member nat_eq (range_with_len (a + 1) count) q ≡ true → (a + 1 ≤ q) × (q < a + 1 + count)) → (nat_eq q a ≡ true) ⊎ (is_member nat_eq (range_with_len (a + 1) count) q ≡ true) → (a ≤ q) × (q < a + suc count)
    by more (inl here) = let same : q ≡ a = eqb-true q a here in (omega arith, omega arith)
    by more (inr there) = let rest = more there in (omega (arith, rest), omega (arith, rest))

-- ---- where each is used

none_left : (range : Numbers) (used : List ℕ) → ((n : ℕ) → IsFree range used n → ⊥) → count_of range ≤ length used
none_left range used none =
    omega (arith, length-range_with_len range.first (count_of range), length-le_from_is_member nat_eq_equiv (range_with_len range.first (count_of range)) used (range-IsDistinct range.first (count_of range)) each)
  where
    each : (q : ℕ) → is_member nat_eq (range_with_len range.first (count_of range)) q ≡ true → is_member nat_eq used q ≡ true
    each q is =
        let within = in_range q range.first (count_of range) is in
        true_from_ne_false (is_used used q) (λ unused. none q (record {
          first_at_most = within.0;
          at_most_last = omega (arith, within);
          unused = λ has. false≢true (sym unused ∙ test_from_used used q has);
        }))

-- while fewer are used than there are, one is given
pub is_given : (range : Numbers) (used : List ℕ) → length used < count_of range → IsSome (least_free_of range used)
is_given range used few = by (least_free_cases range used)
  where
    by : ((k : ℕ) × (least_free_of range used ≡ Some k) × IsLeastFree range used k) ⊎ ((least_free_of range used ≡ None) × ((n : ℕ) → IsFree range used n → ⊥)) → IsSome (least_free_of range used)
    by (inl found) = ap (λ (o : Option ℕ). is_some o) found.1
    by (inr none) = absurd (omega (arith, none_left range used none.1))

-- what is given is free
pub given-free : (range : Numbers) (used : List ℕ) (n : ℕ) → least_free_of range used ≡ Some n → IsFree range used n
given-free range used n is = ((least_free_iff range used n).0 is).free
