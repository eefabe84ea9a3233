-- Histories, one by one.
use Rattle.std.proofs.Common.{◌≡◌, ℕ, zero, suc, ◌+◌, ◌<◌, ◌≤◌, List, [], ◌∷◌, ◌++◌, length, map, take, get_or, slice_set, Some, option_map, sym, refl, ap, ap₂, ◌∙◌, arith}
use Rattle.plant_core.proofs.Common.{slice_get, AllWithin, length-set, map-set, take_all, AllWithin-more_set, slice_get-map, slice_get_read, same_Some, SliceRow, Entry, Output, HeldHistory, get_other, seen_at, set_alike, histories_after_reslice}
use Rattle.operator_model.specs.declared.action.Action.TheVariants as actions

abbrev pub entries_of : HeldHistory → List Entry
entries_of history = history.entries

-- ---- room so far

pub record HaveRoomSoFar (old now : List HeldHistory) (op : ℕ) : Type 0 where
  pub one_each : length now ≡ length old
  pub room : AllWithin (λ (history : HeldHistory). 0 < history.spare) now 0 op
  pub entries : map entries_of now ≡ map entries_of old

module _ (old now : List HeldHistory) (n op : ℕ) (x y : HeldHistory) (long : n ≡ length now) (within : op < n) (is : x ≡ get_or now op x) (same : y.entries ≡ x.entries) (so_far : HaveRoomSoFar old now op) where
  pub entries_alike : map entries_of (slice_set now op y) ≡ map entries_of old
  entries_alike = set_alike entries_of now op y x.entries (seen_at entries_of now n op x long within is) same ∙ so_far.entries

  pub one_more_room : 0 < y.spare → HaveRoomSoFar old (slice_set now op y) (op + 1)
  one_more_room some = record {
    one_each = length-set now op y ∙ so_far.one_each;
    room = AllWithin-more_set now op y (omega (arith, long, within)) (λ (history : HeldHistory). 0 < history.spare) so_far.room some;
    entries = entries_alike;
  }

-- ---- recorded so far

pub record HaveRecordedSoFar (from : ℕ) (rows : List SliceRow) (old now : List HeldHistory) (op : ℕ) : Type 0 where
  pub one_each : length now ≡ length old
  pub entries : map entries_of now ≡ histories_after_reslice from (take op rows) (map entries_of old)
  pub others : (i : ℕ) → op ≤ i → slice_get now i ≡ slice_get old i

pub none_recorded : (from : ℕ) (rows : List SliceRow) (old : List HeldHistory) → HaveRecordedSoFar from rows old old 0
none_recorded from rows old = record { one_each = refl; entries = refl; others = λ i le. refl }

one_more : (from : ℕ) (rows : List SliceRow) (histories : List (List Entry)) (op : ℕ) (row : SliceRow) (history : List Entry) → slice_get rows op ≡ Some row → slice_get histories op ≡ Some history
    → slice_set (histories_after_reslice from (take op rows) histories) op (history ++ record { action = actions.Reslice from row; outputs = [] } ∷ []) ≡ histories_after_reslice from (take (op + 1) rows) histories
one_more from [] histories op row history e f = absurd (cc)
one_more from (r ∷ rows) [] op row history e f = absurd (cc)
one_more from (r ∷ rows) (h ∷ histories) zero row history e f = λ k. (sym (same_Some h history f) k ++ record { action = actions.Reslice from (sym (same_Some r row e) k); outputs = [] } ∷ []) ∷ histories
one_more from (r ∷ rows) (h ∷ histories) (suc op) row history e f =
    let more : suc (op + 1) ≡ suc op + 1 = omega arith in
    ap (λ (hs : List (List Entry)). (h ++ record { action = actions.Reslice from r; outputs = [] } ∷ []) ∷ hs) (one_more from rows histories op row history e f)
    ∙ ap (λ (k : ℕ). histories_after_reslice from (take k (r ∷ rows)) (h ∷ histories)) more

module _ (from : ℕ) (rows : List SliceRow) (old now : List HeldHistory) (n op : ℕ) (x : HeldHistory) (long : n ≡ length now) (within : op < n) (is : x ≡ get_or now op x) (so_far : HaveRecordedSoFar from rows old now op) where
  there : slice_get now op ≡ Some x
  there = slice_get_read now n op x long within is

  pub one_more_recorded : (y : HeldHistory) (row : SliceRow) (outputs : List Output) → slice_get rows op ≡ Some row → y.entries ≡ x.entries ++ record { action = actions.Reslice from row; outputs = outputs } ∷ []
      → outputs ≡ [] → HaveRecordedSoFar from rows old (slice_set now op y) (op + 1)
  one_more_recorded y row outputs here put none = record {
    one_each = length-set now op y ∙ so_far.one_each;
    entries = map-set entries_of now op y ∙ (ap₂ (λ (hs : List (List Entry)) (h : List Entry). slice_set hs op h) so_far.entries (put ∙ ap (λ (os : List Output). x.entries ++ record { action = actions.Reslice from row; outputs = os } ∷ []) none)
        ∙ one_more from rows (map entries_of old) op row x.entries here
        (slice_get-map entries_of old op ∙ ap (option_map entries_of) (sym (so_far.others op (omega arith)) ∙ there)));
    others = λ i le. get_other now op i y (λ same. omega (arith, le, same)) ∙ so_far.others i (omega (arith, le));
  }

pub all_recorded : (from : ℕ) (rows : List SliceRow) (old now : List HeldHistory) (op : ℕ) → length rows ≤ op → HaveRecordedSoFar from rows old now op
    → map entries_of now ≡ histories_after_reslice from rows (map entries_of old)
all_recorded from rows old now op past so_far = so_far.entries ∙ ap (λ (rs : List SliceRow). histories_after_reslice from rs (map entries_of old)) (take_all op rows past)
