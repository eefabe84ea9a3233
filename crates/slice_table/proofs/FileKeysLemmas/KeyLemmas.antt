-- The reading of one key finds whether what stands under it may stand there.
use Rattle.std.proofs.Common.{◌≡◌, ℕ, pos, ◌≤◌, ◌↔◌, nat_le, ◌&&◌, Bool, true, false, [], ◌∷◌, Option, Some, None, IsNone, Ok, Err, refl, sym, ap, ◌∙◌, subst}
use Rattle.slice_table.proofs.FileKeysLemmas.Common.{and_parts, true≢false, Data, string, integer, array, table, Members, as_array, as_table, as_str, decode_of, ◌>>=◌, ConstsFields, BadValue, Field, Place, Key, Table, Entry, SaysConsts, SaysSlice, two, ok_same, bind_ok, required_ok, at_most, both_true, le_true, natural_is, table_is, array_said, range_is, slice_is, text_said, consts_are, table_in, field_in, standing_at, value_of_key, IsValueOfKey, MustStand, IsNumber, IsNumberIn, IsRange}
use Rattle.admission.specs.Free.{Numbers}
use Rattle.slice_scheduler.specs.Minislots.{Minislots}
use Rattle.slice_table.specs.declared.plant_key.Field.TheVariants as field
use Rattle.slice_table.specs.declared.plant_key.Place.TheVariants as place
use Rattle.slice_table.specs.declared.ranges.Bounds.{Bounds}
use Rattle.slice_table.specs.Ranges.{range_of, default_of}
use Rattle.slice_table.specs.Tree.{PlantResult, required_value, expected_value, checked_value, at_field, natural, number_of, number_if, number_at, number_of_key, pair_in, array_at, pair_at, text_at, bytes_if_decoded, bytes_at, table_of}
use Rattle.slice_table.specs.ReadRows.{is_range, range_at, fits_frame, slice_at}
use Rattle.slice_table.proofs.FileKeysLemmas.ListLemmas.{some_same}
use Rattle.slice_table.proofs.FileKeysLemmas.FoundLemmas.{Blames, blames_required, blames_bind, blames_expected, blames_checked, Found, Judged, found_key, judged_required}

-- ---- what is blamed

pub blames_array : (place : Place) (f : Field) (ms : Members) → Blames (Entry place f) (at_field f ms) (array_at place f ms)
unfolding array_at
blames_array place f ms =
    blames_bind (Entry place f) (at_field f ms) (required_value (Entry place f) (at_field f ms)) _ (blames_required (Entry place f) (at_field f ms))
    (λ d is. blames_expected (Entry place f) (at_field f ms) d (as_array d) (required_ok (Entry place f) (at_field f ms) d is))

pub blames_pair : (place : Place) (f : Field) (ms : Members) → Blames (Entry place f) (at_field f ms) (pair_at place f ms)
unfolding pair_at
blames_pair place f ms =
    blames_bind (Entry place f) (at_field f ms) (array_at place f ms) _ (blames_array place f ms)
    (λ ds is. blames_expected (Entry place f) (at_field f ms) (array ds) (pair_in ds) (array_said place f ms ds is))

pub blames_text : (place : Place) (f : Field) (ms : Members) → Blames (Entry place f) (at_field f ms) (text_at place f ms)
unfolding text_at
blames_text place f ms =
    blames_bind (Entry place f) (at_field f ms) (required_value (Entry place f) (at_field f ms)) _ (blames_required (Entry place f) (at_field f ms))
    (λ d is. blames_expected (Entry place f) (at_field f ms) d (as_str d) (required_ok (Entry place f) (at_field f ms) d is))

pub blames_bytes : (place : Place) (f : Field) (ms : Members) → Blames (Entry place f) (at_field f ms) (bytes_at place f ms)
unfolding bytes_at
blames_bytes place f ms =
    blames_bind (Entry place f) (at_field f ms) (text_at place f ms) _ (blames_text place f ms)
    (λ text is. blames_expected (Entry place f) (at_field f ms) (string text) (bytes_if_decoded (decode_of text)) (text_said place f ms text is))

-- ---- a pair is one

pair_held : (place : Place) (f : Field) (ms : Members) (pair : ℕ × ℕ) → pair_at place f ms ≡ Ok pair → (d : Data) × (at_field f ms ≡ Some d)
unfolding pair_at
pair_held place f ms pair h = let ds = bind_ok (array_at place f ms) _ pair h in (array ds.0, array_said place f ms ds.0 ds.1)

module _ (document : Members) where
  -- what stands under a key of a table that stands there
  pub held_in : (place : Place) (f : Field) (ms : Members) → standing_at document place ≡ Some (table ms) → value_of_key document (Entry place f) ≡ at_field f ms
  held_in place f ms at = ap (λ (o : Option Data). field_in f (table_in o)) at

  -- ---- a table

  judged_table : (place : Place) (d : Data) (o : Option Members) → as_table d ≡ o → Judged document (Table place) (Some d) (expected_value (Table place) o)
  judged_table place d None is = ((λ may. let e : ◌≡◌ {A = Option Members} None (Some may.0) = sym is ∙ ap as_table may.1 in cc), refl)
  judged_table place d (Some ms) is = (ms, table_is d ms is)

  pub found_table : (place : Place) (d : Data) → standing_at document place ≡ Some d → Found document (Table place ∷ []) (table_of place d)
  unfolding table_of
  found_table place d at = found_key document (Table place) (Some d) (expected_value (Table place) (as_table d)) at (judged_table place d (as_table d) refl)

  -- ---- numbers

  abbrev IsJudgedNumber : Key → ℕ → ℕ → Data → PlantResult ℕ → Type 0
  IsJudgedNumber key low high d (Ok n) = IsNumber low high d
  IsJudgedNumber key low high d (Err fault) = (¬ IsNumber low high d) × (fault ≡ BadValue key)

  tested : (key : Key) (low high : ℕ) (d : Data) (n : ℕ) (test : Bool) → d ≡ integer (pos n) → (nat_le low n && nat_le n high) ≡ test
      → IsJudgedNumber key low high d (checked_value key test n)
  tested key low high d n true is passes =
      let parts = and_parts (nat_le low n) (nat_le n high) passes in (n, is, at_most low n parts.0, at_most n high parts.1)
  tested key low high d n false is fails = (
    (λ number.
        let same : n ≡ number.0 = some_same n number.0 (ap natural (sym is ∙ number.1)) in
        let low_enough : low ≤ n = subst (λ (m : ℕ). low ≤ m) (sym same) number.2 in
        let high_enough : n ≤ high = subst (λ (m : ℕ). m ≤ high) (sym same) number.3 in
        true≢false (sym (both_true (nat_le low n) (nat_le n high) (le_true low n low_enough) (le_true n high high_enough)) ∙ fails)),
    refl,
  )

  numbered : (key : Key) (low high : ℕ) (d : Data) (o : Option ℕ) → natural d ≡ o
      → IsJudgedNumber key low high d (expected_value key o >>= λ n. checked_value key (nat_le low n && nat_le n high) n)
  numbered key low high d None is = ((λ number. let e : ◌≡◌ {A = Option ℕ} None (Some number.0) = sym is ∙ ap natural number.1 in cc), refl)
  numbered key low high d (Some n) is = tested key low high d n (nat_le low n && nat_le n high) (natural_is d n is) refl

  judged_number : (key : Key) (low high : ℕ) (d : Data) → IsJudgedNumber key low high d (number_of key low high d)
  unfolding number_of
  judged_number key low high d = numbered key low high d (natural d) refl

  -- the key may have such a number and nothing else
  abbrev pub HasNumber : Key → ℕ → ℕ → Type 0
  HasNumber key low high = (d : Data) → IsValueOfKey document key d ↔ IsNumber low high d

  by_number : (key : Key) (low high : ℕ) (d : Data) (r : PlantResult ℕ) → HasNumber key low high → IsJudgedNumber key low high d r → Judged document key (Some d) r
  by_number key low high d (Ok n) has judged = (has d).1 judged
  by_number key low high d (Err fault) has judged = ((λ may. judged.0 ((has d).0 may)), judged.1)

  judged_number_at : (key : Key) (low high : ℕ) (o : Option Data) → MustStand document key → HasNumber key low high
      → Judged document key o (required_value key o >>= λ d. number_of key low high d)
  judged_number_at key low high None must has = (must, refl)
  judged_number_at key low high (Some d) must has = by_number key low high d (number_of key low high d) has (judged_number key low high d)

  -- the key has to be there where it has no default
  judged_number_if : (key : Key) (range : Bounds) (default : Option ℕ) (o : Option Data) → (MustStand document key ↔ IsNone default)
      → HasNumber key range.low range.high → Judged document key o (number_if key range default o)
  judged_number_if key range None None must has = (must.1 refl, refl)
  judged_number_if key range (Some n) None must has = (λ h. true≢false (must.0 h))
  judged_number_if key range default (Some d) must has =
      by_number key range.low range.high d (number_of key range.low range.high d) has (judged_number key range.low range.high d)

  pub found_number : (place : Place) (f : Field) (low high : ℕ) (ms : Members) → standing_at document place ≡ Some (table ms)
      → MustStand document (Entry place f) → HasNumber (Entry place f) low high → Found document (Entry place f ∷ []) (number_at place f low high ms)
  unfolding number_at
  found_number place f low high ms at must has =
      found_key document (Entry place f) (at_field f ms) _ (held_in place f ms at) (judged_number_at (Entry place f) low high (at_field f ms) must has)

  pub found_number_in : (place : Place) (f : Field) (ms : Members) → standing_at document place ≡ Some (table ms)
      → (MustStand document (Entry place f) ↔ IsNone (default_of f)) → ((d : Data) → IsValueOfKey document (Entry place f) d ↔ IsNumberIn f d)
      → Found document (Entry place f ∷ []) (number_of_key place f ms)
  unfolding number_of_key
  found_number_in place f ms at must has =
      found_key document (Entry place f) (at_field f ms) _ (held_in place f ms at)
      (judged_number_if (Entry place f) (range_of f) (default_of f) (at_field f ms) must has)

  -- ---- ranges and slices

  pub found_range : (place : Place) (f : Field) (ms : Members) → standing_at document place ≡ Some (table ms)
      → MustStand document (Entry place f) → ((d : Data) → IsValueOfKey document (Entry place f) d ↔ IsRange f d)
      → Found document (Entry place f ∷ []) (range_at place f ms)
  unfolding range_at
  found_range place f ms at must has =
      found_key document (Entry place f) (at_field f ms) (range_at place f ms) (held_in place f ms at)
      (judged_required document (Entry place f) (at_field f ms) (range_at place f ms) must blames said again)
    where
      blames : Blames (Entry place f) (at_field f ms) (range_at place f ms)
      blames =
          blames_bind (Entry place f) (at_field f ms) (pair_at place f ms) _ (blames_pair place f ms)
          (λ pair is. let d = pair_held place f ms pair is in blames_checked (Entry place f) (at_field f ms) d.0 (is_range (range_of f) pair.0 pair.1) _ d.1)

      said : (range : Numbers) → range_at place f ms ≡ Ok range → (d : Data) × (at_field f ms ≡ Some d) × IsValueOfKey document (Entry place f) d
      said range is =
          let says = (range_is place f ms range).0 is in
          (two range.first range.last, says.held, (has (two range.first range.last)).1 (range.first, range.last, refl, says.low, says.ordered, says.most))

      again : (d : Data) → at_field f ms ≡ Some d → IsValueOfKey document (Entry place f) d → (range : Numbers) × (range_at place f ms ≡ Ok range)
      again d holds may =
          let is = (has d).0 may in
          let range : Numbers = record { first = is.0; last = is.1 } in
          (range, (range_is place f ms range).1 (record { held = holds ∙ ap (λ (e : Data). Some e) is.2; low = is.3; ordered = is.4; most = is.5 }))

  -- a document says one thing of what all operators share
  pub consts_one : (a b : ConstsFields) → SaysConsts document a → SaysConsts document b → a ≡ b
  consts_one a b x y = ok_same a b (sym ((consts_are document a).1 x) ∙ (consts_are document b).1 y)

  pub found_slice : (consts : ConstsFields) (operator : ℕ) (ms : Members) → standing_at document (place.Operator operator) ≡ Some (table ms)
      → SaysConsts document consts → Found document (Entry (place.Operator operator) field.Slice ∷ []) (slice_at consts (place.Operator operator) ms)
  unfolding slice_at
  found_slice consts operator ms at says_consts =
      found_key document key (at_field field.Slice ms) (slice_at consts whose ms) (held_in (place.Operator operator) field.Slice ms at)
      (judged_required document key (at_field field.Slice ms) (slice_at consts whose ms) tt blames said again)
    where
      whose : Place
      whose = place.Operator operator

      key : Key
      key = Entry whose field.Slice

      blames : Blames key (at_field field.Slice ms) (slice_at consts whose ms)
      blames =
          blames_bind key (at_field field.Slice ms) (pair_at whose field.Slice ms) _ (blames_pair whose field.Slice ms)
          (λ pair is. let d = pair_held whose field.Slice ms pair is in blames_checked key (at_field field.Slice ms) d.0 (fits_frame consts pair.0 pair.1) _ d.1)

      said : (slice : Minislots) → slice_at consts whose ms ≡ Ok slice → (d : Data) × (at_field field.Slice ms ≡ Some d) × IsValueOfKey document key d
      said slice is =
          let says = (slice_is consts whose ms slice).0 is in
          (two slice.start slice.length, says.held, (consts, slice.start, slice.length, says_consts, refl, says.behind_head, says.some, says.within_frame))

      again : (d : Data) → at_field field.Slice ms ≡ Some d → IsValueOfKey document key d → (slice : Minislots) × (slice_at consts whose ms ≡ Ok slice)
      again d holds may =
          let slice : Minislots = record { start = may.1; length = may.2 } in
          let same : may.0 ≡ consts = consts_one may.0 consts may.3 says_consts in
          let says : SaysSlice may.0 ms slice =
          record { held = holds ∙ ap (λ (e : Data). Some e) may.4; behind_head = may.5; some = may.6; within_frame = may.7 } in
          (slice, (slice_is consts whose ms slice).1 (subst (λ (c : ConstsFields). SaysSlice c ms slice) same says))
