-- Other slices, given desk by desk.
use Rattle.std.proofs.Common.{◌≡◌, ℕ, ◌+◌, ◌<◌, ◌≤◌, List, length, map, get_or, Option, Some, option_map, ◌⊎◌, inl, inr, refl, sym, ap, ◌∙◌, arith}
use Rattle.plant_core.proofs.LiveLemmas.Common.{slice_get, slice_set, length-map, length-set, cases_eq, slice_get-map, slice_get_read, same_Some, slice_get_within, ElementsFields, SliceRow, BookView, get_same, get_other, HaveTakenAs}
use Rattle.plant_core.proofs.LiveLemmas.PlaceLemmas.{seen_at, set_alike}

-- ---- so far

-- the operators before this place have taken their rows, the others are as they were
pub record HaveTakenSoFar {X : Type 0} (book : X → BookView) (waits : X → List (ℕ × ElementsFields)) (after : BookView → SliceRow → BookView) (rows : List SliceRow) (old now : List X) (op : ℕ) : Type 0 where
  pub one_each : length now ≡ length old
  pub taken : (i : ℕ) (row : SliceRow) (b : BookView) → i < op → slice_get rows i ≡ Some row → slice_get (map book old) i ≡ Some b → slice_get (map book now) i ≡ Some (after b row)
  pub others : (i : ℕ) → op ≤ i → slice_get now i ≡ slice_get old i
  pub waiting : map waits now ≡ map waits old

module _ {X : Type 0} (book : X → BookView) (waits : X → List (ℕ × ElementsFields)) (after : BookView → SliceRow → BookView) (rows : List SliceRow) (old : List X) where
  pub none_taken : HaveTakenSoFar book waits after rows old old 0
  none_taken = record { one_each = refl; taken = λ i row b lt e f. absurd (omega arith); others = λ i le. refl; waiting = refl }

  pub one_more_taken : (now : List X) (n op : ℕ) (x y : X) (row : SliceRow) → n ≡ length now → op < n → x ≡ get_or now op x → slice_get rows op ≡ Some row
      → book y ≡ after (book x) row → waits y ≡ waits x → HaveTakenSoFar book waits after rows old now op → HaveTakenSoFar book waits after rows old (slice_set now op y) (op + 1)
  one_more_taken now n op x y row long within is here took waited so_far = record {
    one_each = length-set now op y ∙ so_far.one_each;
    taken = λ i r b lt e f. by i r b (cases_eq i op) lt e f;
    others = λ i le. get_other now op i y (λ same. omega (arith, le, same)) ∙ so_far.others i (omega (arith, le));
    waiting = set_alike waits now op y (waits x) (seen_at waits now n op x long within is) waited ∙ so_far.waiting;
  }
    where
      there : slice_get now op ≡ Some x
      there = slice_get_read now n op x long within is

      by : (i : ℕ) (r : SliceRow) (b : BookView) → (i ≡ op) ⊎ (i ≡ op → ⊥) → i < op + 1 → slice_get rows i ≡ Some r → slice_get (map book old) i ≡ Some b → slice_get (map book (slice_set now op y)) i ≡ Some (after b r)
      by i r b (inl same) lt e f =
          let old_is : slice_get old op ≡ Some x = sym (so_far.others op (omega arith)) ∙ there in
          let b_is : book x ≡ b = same_Some (book x) b (sym (slice_get-map book old op ∙ ap (option_map book) old_is) ∙ (ap (slice_get (map book old)) (sym same) ∙ f)) in
          let r_is : row ≡ r = same_Some row r (sym here ∙ (ap (slice_get rows) (sym same) ∙ e)) in
          ap (slice_get (map book (slice_set now op y))) same
          ∙ (slice_get-map book (slice_set now op y) op
          ∙ (ap (option_map book) (get_same now op y (omega (arith, long, within)))
          ∙ ap (λ (v : BookView). let o : Option BookView = Some v in o) (took ∙ (λ k. after (b_is k) (r_is k)))))
      by i r b (inr other) lt e f =
          slice_get-map book (slice_set now op y) i
          ∙ (ap (option_map book) (get_other now op i y other)
          ∙ (sym (slice_get-map book now i) ∙ so_far.taken i r b (omega (arith, lt, other)) e f))

  pub all_taken : (now : List X) (op : ℕ) → length rows ≤ op → HaveTakenSoFar book waits after rows old now op → HaveTakenAs after rows (map book old) (map book now)
  all_taken now op past so_far = record {
    one_each = length-map now book ∙ (so_far.one_each ∙ sym (length-map old book));
    taken = λ i row b e f. so_far.taken i row b (omega (arith, past, slice_get_within rows i row e)) e f;
  }
