-- What a search among ascending entries finds.
use Rattle.std.proofs.Common.{◌≡◌, ℕ, zero, suc, ◌-◌, ◌<◌, ◌≤◌, cond, List, [], ◌∷◌, length, get_or, set, ◌⊎◌, Some, None, Result, Ok, Err, IfOk, IfErr, refl, sym, ap, ◌∙◌, arith, inl, inr}
use Rattle.admission.proofs.Common.{insert, remove, AllByRecursion, nat_cmp, ordering_index, is_eq, match_ordering, lookup, remove_entry, keys_of, insert_entry, is_at, lt-ltb, le-ltb, eq-eqb, ne_eqb, cases_order, cases_lt, ranked, IsNonDecreasingBy-from_default, StandsAt, IsGap}
use Rattle.std.specs.List.Sorted.{IsSearchInRange, IsBinarySearchResult, IsNonDecreasingBy, IsStrictlySortedBy}
use Rattle.std.specs.declared.cmp.Ordering.{Ordering}
use Rattle.std.specs.declared.cmp.Ordering.TheVariants.{Less, Equal, Greater}
use Rattle.std.specs.Prelude.{slice_get}
use Rattle.std.proofs.lemmas.Bool.Decides.{nat_tests}
use Rattle.std.proofs.lemmas.Option.{none-some, same_Some, slice_get-get_or}

-- ---- the answers of a comparison

pub nat_cmp_less : (a b : ℕ) → a < b → nat_cmp a b ≡ Less
nat_cmp_less a b h = rw (lt-ltb a b h)

pub nat_cmp_equal : (a b : ℕ) → a ≡ b → nat_cmp a b ≡ Equal
nat_cmp_equal a b h = rw (le-ltb a b (omega arith), eq-eqb a b h)

pub nat_cmp_greater : (a b : ℕ) → b < a → nat_cmp a b ≡ Greater
nat_cmp_greater a b h = rw (le-ltb a b (omega arith), ne_eqb a b (omega arith))

-- ---- one step of each word, at the first row

module _ {V : Type 0} (e : ℕ × V) (es : List (ℕ × V)) (k : ℕ) where
  pub put_as : (v : V) (o : Ordering) → nat_cmp k e.0 ≡ o → insert_entry nat_cmp (e ∷ es) k v ≡ match_ordering o ((k, v) ∷ e ∷ es) ((e.0, v) ∷ es) (e ∷ insert_entry nat_cmp es k v)
  put_as v o h = ap (λ (r : Ordering). match_ordering r ((k, v) ∷ e ∷ es) ((e.0, v) ∷ es) (e ∷ insert_entry nat_cmp es k v)) h

  pub look_as : (o : Ordering) → nat_cmp k e.0 ≡ o → lookup (is_at (nat_cmp k)) (e ∷ es) ≡ cond (is_eq o) (Some e.1) (lookup (is_at (nat_cmp k)) es)
  look_as o h = ap (λ (r : Ordering). cond (is_eq r) (Some e.1) (lookup (is_at (nat_cmp k)) es)) h

  pub take_out_as : (o : Ordering) → nat_cmp k e.0 ≡ o → remove_entry (is_at (nat_cmp k)) (e ∷ es) ≡ cond (is_eq o) es (e ∷ remove_entry (is_at (nat_cmp k)) es)
  take_out_as o h = ap (λ (r : Ordering). cond (is_eq r) es (e ∷ remove_entry (is_at (nat_cmp k)) es)) h

-- ---- by places

module _ {V : Type 0} (other_entry : ℕ × V) where
  abbrev sfid_at : List (ℕ × V) → ℕ → ℕ
  sfid_at entries place = (get_or entries place other_entry).0

  -- in range the other entry is not asked for
  same_key : (entries : List (ℕ × V)) (place : ℕ) (other : ℕ × V) → place < length entries → (get_or entries place other).0 ≡ sfid_at entries place
  same_key [] place other lt = absurd (omega arith)
  same_key (e ∷ es) zero other lt = refl
  same_key (e ∷ es) (suc place) other lt = same_key es place other (omega arith)

  -- each entry before this place has a smaller SFID
  abbrev SmallerBefore : List (ℕ × V) → ℕ → ℕ → Type 0
  SmallerBefore entries k place = (j : ℕ) → j < place → sfid_at entries j < k

  smaller_tail : (e : ℕ × V) (es : List (ℕ × V)) (k place : ℕ) → SmallerBefore (e ∷ es) k (suc place) → SmallerBefore es k place
  smaller_tail e es k place h j lt = h (suc j) (omega arith)

  first_smaller : (e : ℕ × V) (es : List (ℕ × V)) (k place : ℕ) → SmallerBefore (e ∷ es) k (suc place) → nat_cmp k e.0 ≡ Greater
  first_smaller e es k place h = nat_cmp_greater k e.0 (h 0 (omega arith))

  -- the entry at the place has the SFID
  module _ (k : ℕ) (v : V) where
    set_there : (entries : List (ℕ × V)) (place : ℕ) → place < length entries → sfid_at entries place ≡ k → SmallerBefore entries k place → set entries place (k, v) ≡ insert_entry nat_cmp entries k v
    set_there [] place lt is before = absurd (omega arith)
    set_there (e ∷ es) zero lt is before = ap (λ (n : ℕ). (n, v) ∷ es) (sym is) ∙ sym (put_as e es k v Equal (nat_cmp_equal k e.0 (sym is)))
    set_there (e ∷ es) (suc place) lt is before =
        ap (λ (l : List (ℕ × V)). e ∷ l) (set_there es place (omega arith) is (smaller_tail e es k place before))
        ∙ sym (put_as e es k v Greater (first_smaller e es k place before))

    insert_gap : (entries : List (ℕ × V)) (place : ℕ) → place ≤ length entries → SmallerBefore entries k place → (place < length entries → k < sfid_at entries place) → insert entries place (k, v) ≡ insert_entry nat_cmp entries k v
    insert_gap [] zero le before after = refl
    insert_gap [] (suc place) le before after = absurd (omega arith)
    insert_gap (e ∷ es) zero le before after = sym (put_as e es k v Less (nat_cmp_less k e.0 (after (omega arith))))
    insert_gap (e ∷ es) (suc place) le before after =
        ap (λ (l : List (ℕ × V)). e ∷ l) (insert_gap es place (omega arith) (smaller_tail e es k place before) (λ lt. after (omega arith)))
        ∙ sym (put_as e es k v Greater (first_smaller e es k place before))

  module _ (k : ℕ) where
    remove_there : (entries : List (ℕ × V)) (place : ℕ) → place < length entries → sfid_at entries place ≡ k → SmallerBefore entries k place → remove entries place ≡ remove_entry (is_at (nat_cmp k)) entries
    remove_there [] place lt is before = absurd (omega arith)
    remove_there (e ∷ es) zero lt is before = sym (take_out_as e es k Equal (nat_cmp_equal k e.0 (sym is)))
    remove_there (e ∷ es) (suc place) lt is before =
        ap (λ (l : List (ℕ × V)). e ∷ l) (remove_there es place (omega arith) is (smaller_tail e es k place before))
        ∙ sym (take_out_as e es k Greater (first_smaller e es k place before))

    lookup_there : (entries : List (ℕ × V)) (place : ℕ) (other : ℕ × V) → place < length entries → sfid_at entries place ≡ k → SmallerBefore entries k place → lookup (is_at (nat_cmp k)) entries ≡ Some (get_or entries place other).1
    lookup_there [] place other lt is before = absurd (omega arith)
    lookup_there (e ∷ es) zero other lt is before = look_as e es k Equal (nat_cmp_equal k e.0 (sym is))
    lookup_there (e ∷ es) (suc place) other lt is before =
        look_as e es k Greater (first_smaller e es k place before) ∙ lookup_there es place other (omega arith) is (smaller_tail e es k place before)

    lookup_absent : (entries : List (ℕ × V)) → ((j : ℕ) → j < length entries → sfid_at entries j ≡ k → ⊥) → lookup (is_at (nat_cmp k)) entries ≡ None
    lookup_absent [] no_row = refl
    lookup_absent (e ∷ es) no_row =
        passed (cases_order k e.0) ∙ lookup_absent es (λ j lt is. no_row (suc j) (omega arith) is)
      where
        passed : (k ≡ e.0) ⊎ ((k < e.0) ⊎ (e.0 < k)) → lookup (is_at (nat_cmp k)) (e ∷ es) ≡ lookup (is_at (nat_cmp k)) es
        passed (inl same) = absurd (no_row 0 (omega arith) (sym same))
        passed (inr (inl below)) = look_as e es k Less (nat_cmp_less k e.0 below)
        passed (inr (inr above)) = look_as e es k Greater (nat_cmp_greater k e.0 above)

  -- ---- the order

  -- the SFIDs rise along the entries
  sfids_rise : (entries : List (ℕ × V)) → IsStrictlySortedBy nat_cmp (keys_of entries) → (i j : ℕ) → i < j → j < length entries → sfid_at entries i < sfid_at entries j
  unfolding IsStrictlySortedBy
  sfids_rise [] s i j lt in_range = absurd (omega arith)
  sfids_rise (e ∷ es) s i zero lt in_range = absurd (omega arith)
  sfids_rise (e ∷ es) s zero (suc j) lt in_range = later es s.0 j (omega arith)
    where
      later : (entries : List (ℕ × V)) → AllByRecursion (λ y. nat_cmp e.0 y ≡ Less) (keys_of entries) → (j : ℕ) → j < length entries → e.0 < sfid_at entries j
      later [] a j lt = absurd (omega arith)
      later (x ∷ xs) a zero lt = ranked e.0 x.0 Less (sym a.0)
      later (x ∷ xs) a (suc j) lt = later xs a.1 j (omega arith)
  sfids_rise (e ∷ es) s (suc i) (suc j) lt in_range = sfids_rise es s.1 i j (omega arith) (omega arith)

  module _ (entries : List (ℕ × V)) (ascending : IsStrictlySortedBy nat_cmp (keys_of entries)) (k : ℕ) where
    -- the comparisons with k rise along the entries, as a binary search asks
    comparisons_rise : IsNonDecreasingBy (λ row. ordering_index (nat_cmp row.0 k)) entries
    comparisons_rise = IsNonDecreasingBy-from_default (λ row. ordering_index (nat_cmp row.0 k)) entries other_entry (λ i j le in_range.
        let rise : sfid_at entries i ≤ sfid_at entries j = grind (arith, sfids_rise entries ascending i j, λ (same : i ≡ j). ap (sfid_at entries) same) in
        grind (arith, nat_tests))

    pub stands : (place : ℕ) → place < length entries → sfid_at entries place ≡ k → StandsAt entries k place
    stands place lt is =
        let before : SmallerBefore entries k place = λ j below. omega (arith, sfids_rise entries ascending j place below lt) in
        record {
          in_range = lt;
          key = λ other. same_key entries place other lt ∙ is;
          there = λ other. lookup_there k entries place other lt is before;
          written = λ v. set_there k v entries place lt is before;
          removed = remove_there k entries place lt is before;
        }

    gap : (place : ℕ) → place ≤ length entries → SmallerBefore entries k place → ((j : ℕ) → place ≤ j → j < length entries → k < sfid_at entries j) → IsGap entries k place
    gap place le before after = record {
      in_range = le;
      absent = lookup_absent k entries (λ j lt is. elim (cases_lt j place) [ inl below ↦ omega (arith, before j below) | inr above ↦ omega (arith, after j above lt) ]);
      inserted = λ v. insert_gap k v entries place le before (after place (omega arith));
    }

-- ---- an SFID past the last entry

module _ {V : Type 0} where
  past_none : (k : ℕ) → IsGap {V = V} [] k 0
  past_none k = record { in_range = omega arith; absent = refl; inserted = λ v. refl }

  pub past_nothing : (entries : List (ℕ × V)) (k : ℕ) → None ≡ slice_get entries (length entries - 1) → IsGap entries k (length entries)
  past_nothing [] k none = past_none k
  past_nothing (e ∷ es) k none =
      let end : ℕ = length (e ∷ es) - 1 in
      absurd (none-some (get_or (e ∷ es) end e) (none ∙ slice_get-get_or (e ∷ es) end e (omega arith)))

  pub past_last : (entries : List (ℕ × V)) → IsStrictlySortedBy nat_cmp (keys_of entries) → (k : ℕ) (last : ℕ × V) → Some last ≡ slice_get entries (length entries - 1) → last.0 < k → IsGap entries k (length entries)
  past_last [] ascending k last at lt = past_none k
  past_last (e ∷ es) ascending k last at lt =
      let entries : List (ℕ × V) = e ∷ es in
      let end : ℕ = length entries - 1 in
      let there : Some last ≡ Some (get_or entries end last) = at ∙ slice_get-get_or entries end last (omega arith) in
      let same : last.0 ≡ (get_or entries end last).0 = ap (λ (entry : ℕ × V). entry.0) (same_Some last (get_or entries end last) there) in
      gap last entries ascending k (length entries) (omega arith)
      (λ j below. elim (cases_lt j end) [
        | inl before ↦ omega (arith, same, lt, sfids_rise last entries ascending j end before (omega arith))
        | inr after ↦ let here : j ≡ end = omega arith in omega (arith, same, lt, ap (λ (n : ℕ). (get_or entries n last).0) here)
      ])
      (λ j from in_range. absurd (omega (arith, from, in_range)))

-- ---- what is found

-- a binary search by SFID ends at the entry, or at the gap for it
pub searched : {V : Type 0} (entries : List (ℕ × V)) → IsStrictlySortedBy nat_cmp (keys_of entries) → (k : ℕ) (r : Result ℕ ℕ) → IsSearchInRange r (length entries)
    → IsBinarySearchResult (λ entry. nat_cmp entry.0 k) entries r → IfOk r (StandsAt entries k) × IfErr r (IsGap entries k)
searched [] ascending k (Ok at) in_range equal = absurd (omega (arith, in_range))
searched [] ascending k (Err zero) in_range split = (tt, record { in_range = in_range; absent = refl; inserted = λ v. refl })
searched [] ascending k (Err (suc at)) in_range split = absurd (omega (arith, in_range))
searched (e ∷ es) ascending k (Ok at) in_range equal = (stands e (e ∷ es) ascending k at in_range (ranked _ k _ (sym (equal e))), tt)
searched (e ∷ es) ascending k (Err at) in_range split = (
  tt,
  gap e (e ∷ es) ascending k at in_range
      (λ j lt. ranked _ k _ (sym ((split (comparisons_rise e (e ∷ es) ascending k)).0 j e (omega arith) lt)))
      (λ j le lt. ranked _ k _ (sym ((split (comparisons_rise e (e ∷ es) ascending k)).1 j e le lt))),
)
