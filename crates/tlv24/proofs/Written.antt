-- What is written says the fields: each known subtype stands where its field does, once, with its length and in its range.
use Rattle.std.proofs.Common.{◌≡◌, ◌≢◌, ℕ, ◌-◌, ◌<◌, ◌≤◌, ◌%◌, ◌^◌, Bool, true, false, cond, eqb, ltb, not, ◌&&◌, List, [], ◌∷◌, ◌++◌, length, slice_get, get_or, Option, Some, None, refl, sym, ap, subst, ◌∙◌, append_assoc, length-append, eq-eqb, arith, inl, inr}
use Rattle.tlv24.proofs.Common.{IfSome, IsTrue, option_to_list, option_map, w16, w32, to_be_bytes, AllByRecursion, list_all, append-nil, take_at, same_Some, cases_eq, le-leb, ltb-true, and_from, Tlv, FlowFields, FitsLengthByte, spelled, IsClassName, AreInRange, byte, word, long, low_bits, name_of, errored_of, value_of, values_of, lengths_of, in_range, is_terminated, IsOfSubtype, IsOnceAtMost, EachIsOnceAtMost, IsFlowEncoding, single, terminated_name, spelled_error, under, tlvs_of, States}
use Rattle.std.proofs.Math.Seq.{get_or-append_seam}
use Rattle.std.proofs.lemmas.Nat.{from_be_bytes-to_be_bytes_2, from_be_bytes-to_be_bytes_4}
use Rattle.tlv24.specs.declared.fields.ErrorEncodings.{ErrorEncodings}
use Rattle.tlv24.proofs.Values.{values_of-append, differs}
use Rattle.tlv24.proofs.Lists.{spelled-append, short-append}
use Rattle.tlv24.proofs.Sound.{stated_fields}

-- ---- one TLV list after another

-- the bytes at the end are those at the start and then these TLVs
pub record Appends (start end : List ℕ) (tlvs : List Tlv) : Type 0 where
  pub is : end ≡ start ++ spelled tlvs

pub at_first : (a b : List ℕ) (xs : List Tlv) → b ≡ a ++ spelled xs → Appends a b xs
at_first a b xs e = record { is = e }

pub and_then : (a b c : List ℕ) (xs ys : List Tlv) → Appends a b xs → c ≡ b ++ spelled ys → Appends a c (xs ++ ys)
and_then a b c xs ys w e = record {
  is = e ∙ ap (λ (x : List ℕ). x ++ spelled ys) w.is ∙ append_assoc a (spelled xs) (spelled ys)
      ∙ ap (λ (x : List ℕ). a ++ x) (sym (spelled-append xs ys));
}

pub all_spelled : (start end : List ℕ) (m n : FlowFields) → start ≡ [] → m ≡ n → Appends start end (tlvs_of m) → end ≡ spelled (tlvs_of n)
all_spelled start end m n empty same w = w.is ∙ ap (λ (x : List ℕ). x ++ spelled (tlvs_of m)) empty ∙ ap (λ (x : FlowFields). spelled (tlvs_of x)) same

-- ---- rows: a subtype and its value, if it stands

abbrev pub Row : Type 0
Row = ℕ × Option (List ℕ)

abbrev laid : List Row → List Tlv
laid [] = []
laid (row ∷ rows) = under row.0 row.1 ++ laid rows

abbrev ascends : ℕ → List Row → Bool
ascends below [] = true
ascends below (row ∷ rows) = ltb below row.0 && ascends row.0 rows

both : (a b : Bool) → (a && b) ≡ true → (a ≡ true) × (b ≡ true)
both true b e = (refl, e)
both false b e = absurd cc

values_under : (s k : ℕ) (o : Option (List ℕ)) → k ≡ s → values_of s (under k o) ≡ option_to_list o
values_under s k None e = refl
values_under s k (Some v) e = rw (eq-eqb k s e) refl

values_not_under : (s k : ℕ) (o : Option (List ℕ)) → k ≢ s → values_of s (under k o) ≡ []
values_not_under s k None other = refl
values_not_under s k (Some v) other = rw (differs k s other) refl

values_laid : (s : ℕ) (row : Row) (rows : List Row) → values_of s (laid (row ∷ rows)) ≡ values_of s (under row.0 row.1) ++ values_of s (laid rows)
values_laid s row rows = values_of-append s (under row.0 row.1) (laid rows)

-- another subtype's row adds no value
values_skip : (s : ℕ) (row : Row) (rows : List Row) → row.0 ≢ s → values_of s (laid (row ∷ rows)) ≡ values_of s (laid rows)
values_skip s row rows other = values_laid s row rows ∙ ap (λ (x : List (List ℕ)). x ++ values_of s (laid rows)) (values_not_under s row.0 row.1 other)

none_after : (below s : ℕ) (rows : List Row) → s ≤ below → ascends below rows ≡ true → values_of s (laid rows) ≡ []
none_after below s [] h e = refl
none_after below s (row ∷ rows) h e =
    let p = both (ltb below row.0) (ascends row.0 rows) e in
    let more : below < row.0 = ltb-true below row.0 p.0 in
    let other : row.0 ≢ s = omega arith in
    values_skip s row rows other ∙ none_after row.0 s rows (omega arith) p.1

-- the subtype's own row alone has a value for it
values_here : (s : ℕ) (row : Row) (rows : List Row) → row.0 ≡ s → ascends row.0 rows ≡ true → values_of s (laid (row ∷ rows)) ≡ option_to_list row.1
values_here s row rows same e =
    values_laid s row rows
    ∙ ap (λ (x : List (List ℕ)). x ++ values_of s (laid rows)) (values_under s row.0 row.1 same)
    ∙ ap (λ (x : List (List ℕ)). option_to_list row.1 ++ x) (none_after row.0 s rows (omega arith) e)
    ∙ append-nil (option_to_list row.1)

-- a row as its subtype has it
pub record IsFineRow (row : Row) : Type 0 where
  pub lengths : ℕ × ℕ
  pub known : lengths_of row.0 ≡ Some lengths
  pub short : lengths.1 < 256
  pub fine : IfSome row.1 (IsOfSubtype row.0 lengths)

once : (s : ℕ) (lengths : ℕ × ℕ) (o : Option (List ℕ)) → IfSome o (IsOfSubtype s lengths) → IsOnceAtMost s lengths (option_to_list o)
once s lengths None h = tt
once s lengths (Some v) h = h

sound_rows : (below : ℕ) (rows : List Row) → ascends below rows ≡ true → AllByRecursion IsFineRow rows → EachIsOnceAtMost (laid rows)
sound_rows below [] e all s lengths known = tt
sound_rows below (row ∷ rows) e all s lengths known =
    let p = both (ltb below row.0) (ascends row.0 rows) e in
    elim (cases_eq row.0 s) [
      | inl same ↦
          let ends : all.0.lengths ≡ lengths = same_Some _ _ (sym all.0.known ∙ ap lengths_of same ∙ known) in
          let here : IfSome row.1 (IsOfSubtype s all.0.lengths) = subst (λ (k : ℕ). IfSome row.1 (IsOfSubtype k all.0.lengths)) same all.0.fine in
          subst (IsOnceAtMost s lengths) (sym (values_here s row rows same p.1))
          (once s lengths row.1 (subst (λ (l : ℕ × ℕ). IfSome row.1 (IsOfSubtype s l)) ends here))
      | inr other ↦ subst (IsOnceAtMost s lengths) (sym (values_skip s row rows other)) (sound_rows row.0 rows p.1 all.1 s lengths known)
    ]

short_under : (s : ℕ) (o : Option (List ℕ)) (lengths : ℕ × ℕ) → lengths.1 < 256 → IfSome o (IsOfSubtype s lengths) → AllByRecursion FitsLengthByte (under s o)
short_under s None lengths short h = tt
short_under s (Some v) lengths short h = let few : length v ≤ lengths.1 = h.short_enough in (omega arith, tt)

short_rows : (rows : List Row) → AllByRecursion IsFineRow rows → AllByRecursion FitsLengthByte (laid rows)
short_rows [] all = tt
short_rows (row ∷ rows) all = short-append (under row.0 row.1) (laid rows) (short_under row.0 row.1 all.0.lengths all.0.short all.0.fine) (short_rows rows all.1)

-- the values that rows have for a subtype, in order: it computes at a numeral
abbrev picked : ℕ → List Row → List (List ℕ)
picked s [] = []
picked s (row ∷ rows) = cond (eqb row.0 s) (option_to_list row.1) [] ++ picked s rows

picked_under : (s k : ℕ) (o : Option (List ℕ)) (b : Bool) → eqb k s ≡ b → values_of s (under k o) ≡ cond b (option_to_list o) []
picked_under s k None true e = refl
picked_under s k None false e = refl
picked_under s k (Some v) true e = rw e refl
picked_under s k (Some v) false e = rw e refl

values_picked : (s : ℕ) (rows : List Row) → values_of s (laid rows) ≡ picked s rows
values_picked s [] = refl
values_picked s (row ∷ rows) =
    values_laid s row rows
    ∙ ap (λ (x : List (List ℕ)). x ++ values_of s (laid rows)) (picked_under s row.0 row.1 (eqb row.0 s) refl)
    ∙ ap (λ (x : List (List ℕ)). cond (eqb row.0 s) (option_to_list row.1) [] ++ x) (values_picked s rows)

first_value : (o : Option (List ℕ)) → slice_get (option_to_list o ++ []) 0 ≡ o
first_value None = refl
first_value (Some v) = refl

-- ---- each kind of value read back

word_back : (o : Option ℕ) → IfSome o (λ n. n < 2 ^ 16) → o ≡ option_map word (option_map (to_be_bytes w16) o)
word_back None h = refl
word_back (Some n) h = let e : word (to_be_bytes w16 n) ≡ n = from_be_bytes-to_be_bytes_2 n h in cc

long_back : (o : Option ℕ) → IfSome o (λ n. n < 2 ^ 32) → o ≡ option_map long (option_map (to_be_bytes w32) o)
long_back None h = refl
long_back (Some n) h = let e : long (to_be_bytes w32 n) ≡ n = from_be_bytes-to_be_bytes_4 n h in cc

below_14_bits : (n : ℕ) → n < 16384 → n % 16384 ≡ n
below_14_bits n h = omega arith

some_number : (m n : ℕ) → m ≡ n → Some n ≡ Some m
some_number m n e = cc

sid_back : (o : Option ℕ) → IfSome o (λ n. n < 16384) → o ≡ option_map low_bits (option_map (to_be_bytes w16) o)
sid_back None h = refl
sid_back (Some n) h = some_number (low_bits (to_be_bytes w16 n)) n (ap (λ (x : ℕ). x % 16384) (from_be_bytes-to_be_bytes_2 n (omega (arith, h))) ∙ below_14_bits n h)

byte_back : (o : Option ℕ) → o ≡ option_map byte (option_map single o)
byte_back None = refl
byte_back (Some n) = refl

name_again : (name : List ℕ) → name_of (terminated_name name) ≡ name
name_again name = take_at name (0 ∷ []) (length (terminated_name name) - 1) (omega (arith, length-append name (0 ∷ [])))

name_back : (o : Option (List ℕ)) → o ≡ option_map name_of (option_map terminated_name o)
name_back None = refl
name_back (Some name) = let e : name_of (terminated_name name) ≡ name = name_again name in cc

errored_back : (o : Option ErrorEncodings) → o ≡ option_map errored_of (option_map spelled_error o)
errored_back None = refl
errored_back (Some e) = refl

-- ---- each kind of value as its subtype has it

fine_word : (s : ℕ) (o : Option ℕ) → IfSome o (λ n. in_range s (to_be_bytes w16 n) ≡ true) → IfSome (option_map (to_be_bytes w16) o) (IsOfSubtype s (2, 2))
fine_word s None h = tt
fine_word s (Some n) h = record { long_enough = omega arith; short_enough = omega arith; takes = h }

fine_long : (s : ℕ) (o : Option ℕ) → IfSome o (λ n. in_range s (to_be_bytes w32 n) ≡ true) → IfSome (option_map (to_be_bytes w32) o) (IsOfSubtype s (4, 4))
fine_long s None h = tt
fine_long s (Some n) h = record { long_enough = omega arith; short_enough = omega arith; takes = h }

fine_byte : (s : ℕ) (o : Option ℕ) → IfSome o (λ n. in_range s (single n) ≡ true) → IfSome (option_map single o) (IsOfSubtype s (1, 1))
fine_byte s None h = tt
fine_byte s (Some n) h = record { long_enough = omega arith; short_enough = omega arith; takes = h }

any_number : (o : Option ℕ) → IfSome o (λ n. true ≡ true)
any_number None = tt
any_number (Some n) = refl

not_zero : (n : ℕ) → 0 < n → not (eqb n 0) ≡ true
not_zero n h = let apart : n ≢ 0 = omega arith in ap not (differs n 0 apart)

takes_reference : (o : Option ℕ) → IfSome o (λ n. 0 < n) → IfSome o (λ n. n < 2 ^ 16) → IfSome o (λ n. in_range 1 (to_be_bytes w16 n) ≡ true)
takes_reference None some fits = tt
takes_reference (Some n) some fits = ap (λ (x : ℕ). not (eqb x 0)) (from_be_bytes-to_be_bytes_2 n fits) ∙ not_zero n some

takes_sfid : (o : Option ℕ) → IfSome o (λ n. 0 < n) → IfSome o (λ n. n < 2 ^ 32) → IfSome o (λ n. in_range 2 (to_be_bytes w32 n) ≡ true)
takes_sfid None some fits = tt
takes_sfid (Some n) some fits = ap (λ (x : ℕ). not (eqb x 0)) (from_be_bytes-to_be_bytes_4 n fits) ∙ not_zero n some

takes_priority : (o : Option ℕ) → IfSome o (λ n. n ≤ 7) → IfSome o (λ n. in_range 7 (single n) ≡ true)
takes_priority None h = tt
takes_priority (Some n) h = le-leb n 7 h

ends_in_zero : (name : List ℕ) → IsTrue (list_all (λ b. not (eqb b 0)) name) → is_terminated (terminated_name name) ≡ true
ends_in_zero name no_zero =
    let last : length (terminated_name name) - 1 ≡ length name = omega (arith, length-append name (0 ∷ [])) in
    let seam : get_or (terminated_name name) (length (terminated_name name) - 1) 1 ≡ 0 =
    ap (λ (i : ℕ). get_or (terminated_name name) i 1) last ∙ get_or-append_seam name 0 [] 1 in
    and_from (eqb (get_or (terminated_name name) (length (terminated_name name) - 1) 1) 0) (list_all (λ b. not (eqb b 0)) (name_of (terminated_name name)))
    (eq-eqb (get_or (terminated_name name) (length (terminated_name name) - 1) 1) 0 seam)
    (ap (list_all (λ (b : ℕ). not (eqb b 0))) (name_again name) ∙ no_zero)

fine_name : (o : Option (List ℕ)) → IfSome o IsClassName → IfSome (option_map terminated_name o) (IsOfSubtype 4 (2, 16))
fine_name None h = tt
fine_name (Some name) h = record {
  long_enough = let some : 1 ≤ length name = h.some in omega (arith, length-append name (0 ∷ []));
  short_enough = let few : length name ≤ 15 = h.few in omega (arith, length-append name (0 ∷ []));
  takes = ends_in_zero name h.no_zero;
}

fine_errored : (o : Option ErrorEncodings) → IfSome (option_map spelled_error o) (IsOfSubtype 5 (6, 6))
fine_errored None = tt
fine_errored (Some e) = record { long_enough = omega arith; short_enough = omega arith; takes = refl }

-- ---- all fields

-- each field that stands fits the bytes that it is written in
pub record FitTheirBytes (m : FlowFields) : Type 0 where
  pub reference : IfSome m.reference (λ n. n < 2 ^ 16)
  pub sfid : IfSome m.sfid (λ n. n < 2 ^ 32)
  pub class_name : IfSome m.class_name IsClassName
  pub max_sustained_rate : IfSome m.max_sustained_rate (λ n. n < 2 ^ 32)
  pub max_burst : IfSome m.max_burst (λ n. n < 2 ^ 32)
  pub min_reserved_rate : IfSome m.min_reserved_rate (λ n. n < 2 ^ 32)
  pub request_policy : IfSome m.request_policy (λ n. n < 2 ^ 32)
  pub polling_interval : IfSome m.polling_interval (λ n. n < 2 ^ 32)
  pub poll_jitter : IfSome m.poll_jitter (λ n. n < 2 ^ 32)
  pub grant_size : IfSome m.grant_size (λ n. n < 2 ^ 16)
  pub grant_interval : IfSome m.grant_interval (λ n. n < 2 ^ 32)
  pub grant_jitter : IfSome m.grant_jitter (λ n. n < 2 ^ 32)

abbrev rows_of : FlowFields → List Row
rows_of m =
    (1, option_map (to_be_bytes w16) m.reference) ∷
    (2, option_map (to_be_bytes w32) m.sfid) ∷
    (3, option_map (to_be_bytes w16) m.sid) ∷
    (4, option_map terminated_name m.class_name) ∷
    (5, option_map spelled_error m.errored) ∷
    (6, option_map single m.set_type) ∷
    (7, option_map single m.traffic_priority) ∷
    (8, option_map (to_be_bytes w32) m.max_sustained_rate) ∷
    (9, option_map (to_be_bytes w32) m.max_burst) ∷
    (10, option_map (to_be_bytes w32) m.min_reserved_rate) ∷
    (15, option_map single m.scheduling_type) ∷
    (16, option_map (to_be_bytes w32) m.request_policy) ∷
    (17, option_map (to_be_bytes w32) m.polling_interval) ∷
    (18, option_map (to_be_bytes w32) m.poll_jitter) ∷
    (19, option_map (to_be_bytes w16) m.grant_size) ∷
    (20, option_map (to_be_bytes w32) m.grant_interval) ∷
    (21, option_map (to_be_bytes w32) m.grant_jitter) ∷
    (22, option_map single m.grants_per_interval) ∷ []

tlvs_laid : (m : FlowFields) → tlvs_of m ≡ laid (rows_of m)
tlvs_laid m = simp (append_assoc, append-nil)

fine_rows : (m : FlowFields) → AreInRange m → FitTheirBytes m → AllByRecursion IsFineRow (rows_of m)
fine_rows m r b = (
  record { lengths = (2, 2); known = refl; short = omega arith; fine = fine_word 1 m.reference (takes_reference m.reference r.reference b.reference) },
  (
    record { lengths = (4, 4); known = refl; short = omega arith; fine = fine_long 2 m.sfid (takes_sfid m.sfid r.sfid b.sfid) },
    (
      record { lengths = (2, 2); known = refl; short = omega arith; fine = fine_word 3 m.sid (any_number m.sid) },
      (
        record { lengths = (2, 16); known = refl; short = omega arith; fine = fine_name m.class_name b.class_name },
        (
          record { lengths = (6, 6); known = refl; short = omega arith; fine = fine_errored m.errored },
          (
            record { lengths = (1, 1); known = refl; short = omega arith; fine = fine_byte 6 m.set_type (any_number m.set_type) },
            (
              record { lengths = (1, 1); known = refl; short = omega arith; fine = fine_byte 7 m.traffic_priority (takes_priority m.traffic_priority r.traffic_priority) },
              (
                record { lengths = (4, 4); known = refl; short = omega arith; fine = fine_long 8 m.max_sustained_rate (any_number m.max_sustained_rate) },
                (
                  record { lengths = (4, 4); known = refl; short = omega arith; fine = fine_long 9 m.max_burst (any_number m.max_burst) },
                  (
                    record { lengths = (4, 4); known = refl; short = omega arith; fine = fine_long 10 m.min_reserved_rate (any_number m.min_reserved_rate) },
                    (
                      record { lengths = (1, 1); known = refl; short = omega arith; fine = fine_byte 15 m.scheduling_type (any_number m.scheduling_type) },
                      (
                        record { lengths = (4, 4); known = refl; short = omega arith; fine = fine_long 16 m.request_policy (any_number m.request_policy) },
                        (
                          record { lengths = (4, 4); known = refl; short = omega arith; fine = fine_long 17 m.polling_interval (any_number m.polling_interval) },
                          (
                            record { lengths = (4, 4); known = refl; short = omega arith; fine = fine_long 18 m.poll_jitter (any_number m.poll_jitter) },
                            (
                              record { lengths = (2, 2); known = refl; short = omega arith; fine = fine_word 19 m.grant_size (any_number m.grant_size) },
                              (
                                record { lengths = (4, 4); known = refl; short = omega arith; fine = fine_long 20 m.grant_interval (any_number m.grant_interval) },
                                (
                                  record { lengths = (4, 4); known = refl; short = omega arith; fine = fine_long 21 m.grant_jitter (any_number m.grant_jitter) },
                                  (
                                    record { lengths = (1, 1); known = refl; short = omega arith; fine = fine_byte 22 m.grants_per_interval (any_number m.grants_per_interval) },
                                    tt,
                                  ),
                                ),
                              ),
                            ),
                          ),
                        ),
                      ),
                    ),
                  ),
                ),
              ),
            ),
          ),
        ),
      ),
    ),
  ),
)

value_at : (s : ℕ) (m : FlowFields) (o : Option (List ℕ)) → picked s (rows_of m) ≡ option_to_list o ++ [] → value_of s (tlvs_of m) ≡ o
value_at s m o e =
    ap (value_of s) (tlvs_laid m) ∙ ap (λ (x : List (List ℕ)). slice_get x 0) (values_picked s (rows_of m) ∙ e) ∙ first_value o

says_back : (m : FlowFields) → AreInRange m → FitTheirBytes m → States (tlvs_of m) m
says_back m r b = record {
  reference = word_back m.reference b.reference ∙ sym (ap (option_map word) (value_at 1 m (option_map (to_be_bytes w16) m.reference) refl));
  sfid = long_back m.sfid b.sfid ∙ sym (ap (option_map long) (value_at 2 m (option_map (to_be_bytes w32) m.sfid) refl));
  sid = sid_back m.sid r.sid ∙ sym (ap (option_map low_bits) (value_at 3 m (option_map (to_be_bytes w16) m.sid) refl));
  class_name = name_back m.class_name ∙ sym (ap (option_map name_of) (value_at 4 m (option_map terminated_name m.class_name) refl));
  errored = errored_back m.errored ∙ sym (ap (option_map errored_of) (value_at 5 m (option_map spelled_error m.errored) refl));
  set_type = byte_back m.set_type ∙ sym (ap (option_map byte) (value_at 6 m (option_map single m.set_type) refl));
  traffic_priority = byte_back m.traffic_priority ∙ sym (ap (option_map byte) (value_at 7 m (option_map single m.traffic_priority) refl));
  max_sustained_rate = long_back m.max_sustained_rate b.max_sustained_rate ∙ sym (ap (option_map long) (value_at 8 m (option_map (to_be_bytes w32) m.max_sustained_rate) refl));
  max_burst = long_back m.max_burst b.max_burst ∙ sym (ap (option_map long) (value_at 9 m (option_map (to_be_bytes w32) m.max_burst) refl));
  min_reserved_rate = long_back m.min_reserved_rate b.min_reserved_rate ∙ sym (ap (option_map long) (value_at 10 m (option_map (to_be_bytes w32) m.min_reserved_rate) refl));
  scheduling_type = byte_back m.scheduling_type ∙ sym (ap (option_map byte) (value_at 15 m (option_map single m.scheduling_type) refl));
  request_policy = long_back m.request_policy b.request_policy ∙ sym (ap (option_map long) (value_at 16 m (option_map (to_be_bytes w32) m.request_policy) refl));
  polling_interval = long_back m.polling_interval b.polling_interval ∙ sym (ap (option_map long) (value_at 17 m (option_map (to_be_bytes w32) m.polling_interval) refl));
  poll_jitter = long_back m.poll_jitter b.poll_jitter ∙ sym (ap (option_map long) (value_at 18 m (option_map (to_be_bytes w32) m.poll_jitter) refl));
  grant_size = word_back m.grant_size b.grant_size ∙ sym (ap (option_map word) (value_at 19 m (option_map (to_be_bytes w16) m.grant_size) refl));
  grant_interval = long_back m.grant_interval b.grant_interval ∙ sym (ap (option_map long) (value_at 20 m (option_map (to_be_bytes w32) m.grant_interval) refl));
  grant_jitter = long_back m.grant_jitter b.grant_jitter ∙ sym (ap (option_map long) (value_at 21 m (option_map (to_be_bytes w32) m.grant_jitter) refl));
  grants_per_interval = byte_back m.grants_per_interval ∙ sym (ap (option_map byte) (value_at 22 m (option_map single m.grants_per_interval) refl));
}

pub written_says : (m : FlowFields) → AreInRange m → FitTheirBytes m → IsFlowEncoding (spelled (tlvs_of m)) m
written_says m r b =
    let fine = fine_rows m r b in
    record {
      tlvs = tlvs_of m;
      list = record { short = subst (AllByRecursion FitsLengthByte) (sym (tlvs_laid m)) (short_rows (rows_of m) fine); spelling = refl };
      sound = subst EachIsOnceAtMost (sym (tlvs_laid m)) (sound_rows 0 (rows_of m) refl fine);
      fields = stated_fields (tlvs_of m) m (says_back m r b);
    }
