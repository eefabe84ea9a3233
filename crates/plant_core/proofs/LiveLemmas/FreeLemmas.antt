-- Slices that have no fault.
use Rattle.std.proofs.Common.{◌≡◌, ℕ, zero, suc, ◌+◌, ◌==◌, Bool, true, false, cond, List, [], ◌∷◌, length, AllPairs, Option, Some, None, option_map, refl, sym, ◌∙◌}
use Rattle.plant_core.proofs.LiveLemmas.Common.{slice_get, if◌then◌else◌, AllByRecursion, position_from, eqb-true, none-some, same_Some, slices_overlap, SliceRow, Unfit, unfit_from, BookView, operator_of_book, PairsByRecursion, AllPairs-from_pairs, slice_of, is_unfit, least_unfit, do_meet, least_meeting, row_fault, reslice_fault, NoneRefuses}
use Rattle.std.specs.Option.{option_or}
use Rattle.operator_model.specs.declared.action.Unfit.TheVariants as unfits
use Rattle.plant_core.specs.declared.live.core_fault.ResliceFault.TheVariants as faults

neither : {X Y : Type 0} (f : X → Y) (o : Option X) (p : Option Y) → option_or (option_map f o) p ≡ None → (o ≡ None) × (p ≡ None)
neither f None p h = (refl, h)
neither f (Some x) p h = absurd (cc)

none_is : {X Y : Type 0} (f : X → Y) (o : Option X) → option_map f o ≡ None → o ≡ None
none_is f None h = refl
none_is f (Some x) h = absurd (cc)

-- ---- no book refuses

not_this : (unfit : Unfit) (from n : ℕ) (books : List BookView) (rows : List SliceRow) → least_unfit unfit from n books rows ≡ None
    → (i : ℕ) (row : SliceRow) (book : BookView) → slice_get rows i ≡ Some row → slice_get books i ≡ Some book → is_unfit unfit (unfit_from (operator_of_book book) from row) ≡ false
not_this unfit from n [] rows h i row book e f = let g : ◌≡◌ {A = Option BookView} None (Some book) = f in absurd (none-some book g)
not_this unfit from n (b ∷ books) [] h i row book e f = let g : ◌≡◌ {A = Option SliceRow} None (Some row) = e in absurd (none-some row g)
not_this unfit from n (b ∷ books) (r ∷ rows) h i row book e f = by (is_unfit unfit (unfit_from (operator_of_book b) from r)) refl h i e f (not_this unfit from (n + 1) books rows)
  where
    by : (found : Bool) → is_unfit unfit (unfit_from (operator_of_book b) from r) ≡ found → (if found then Some n else least_unfit unfit from (n + 1) books rows) ≡ None
        → (i : ℕ) → slice_get (r ∷ rows) i ≡ Some row → slice_get (b ∷ books) i ≡ Some book
        → (least_unfit unfit from (n + 1) books rows ≡ None → (k : ℕ) (row : SliceRow) (book : BookView) → slice_get rows k ≡ Some row → slice_get books k ≡ Some book → is_unfit unfit (unfit_from (operator_of_book book) from row) ≡ false)
        → is_unfit unfit (unfit_from (operator_of_book book) from row) ≡ false
    by true p h i e f rest = absurd (cc)
    by false p h zero e f rest = (λ k. is_unfit unfit (unfit_from (operator_of_book (sym (same_Some b book f) k)) from (sym (same_Some r row e) k))) ∙ p
    by false p h (suc i) e f rest = rest h i row book e f

none_at_all : (o : Option Unfit) → is_unfit unfits.NotPast o ≡ false → is_unfit unfits.Unfinished o ≡ false → is_unfit unfits.OffFrame o ≡ false → is_unfit unfits.BudgetOverSlice o ≡ false → is_unfit unfits.OverBudget o ≡ false → o ≡ None
none_at_all None a b c d e = refl
none_at_all (Some unfits.NotPast) a b c d e = absurd (cc)
none_at_all (Some unfits.Unfinished) a b c d e = absurd (cc)
none_at_all (Some unfits.OffFrame) a b c d e = absurd (cc)
none_at_all (Some unfits.BudgetOverSlice) a b c d e = absurd (cc)
none_at_all (Some unfits.OverBudget) a b c d e = absurd (cc)

-- ---- no two meet

none_from : (t : SliceRow → Bool) (n : ℕ) (rows : List SliceRow) → position_from t n rows ≡ None → AllByRecursion (λ row. t row ≡ false) rows
none_from t n [] h = tt
none_from t n (row ∷ rows) h = by (t row) refl h (none_from t (n + 1) rows)
  where
    by : (b : Bool) → t row ≡ b → cond b (Some n) (position_from t (n + 1) rows) ≡ None → (position_from t (n + 1) rows ≡ None → AllByRecursion (λ row. t row ≡ false) rows) → AllByRecursion (λ row. t row ≡ false) (row ∷ rows)
    by true e h rest = absurd (cc)
    by false e h rest = (e, rest h)

no_pairs : (n : ℕ) (rows : List SliceRow) → least_meeting n rows ≡ None → PairsByRecursion (λ a b. slices_overlap (slice_of a) (slice_of b) ≡ false) rows
no_pairs n [] h = tt
no_pairs n (row ∷ rows) h =
    let both = neither (λ (k : ℕ). (n, k)) (position_from (do_meet row) (n + 1) rows) (least_meeting (n + 1) rows) h in
    (none_from (do_meet row) (n + 1) rows both.0, no_pairs (n + 1) rows both.1)

-- ---- no fault

pub record AreFree (from : ℕ) (books : List BookView) (rows : List SliceRow) : Type 0 where
  pub one_each : length rows ≡ length books
  pub fit : NoneRefuses from books rows
  pub apart : AllPairs (λ a b. slices_overlap (slice_of a) (slice_of b) ≡ false) rows

rows_free : (from : ℕ) (books : List BookView) (rows : List SliceRow) → length rows ≡ length books → row_fault from books rows ≡ None → AreFree from books rows
rows_free from books rows one h =
    let a = neither (λ (op : ℕ). faults.NotPast op) (least_unfit unfits.NotPast from 0 books rows) _ h in
    let b = neither (λ (op : ℕ). faults.Unfinished op) (least_unfit unfits.Unfinished from 0 books rows) _ a.1 in
    let c = neither (λ (op : ℕ). faults.OffFrame op) (least_unfit unfits.OffFrame from 0 books rows) _ b.1 in
    let d = neither (λ (pair : ℕ × ℕ). faults.SlicesMeet pair.0 pair.1) (least_meeting 0 rows) _ c.1 in
    let e = neither (λ (op : ℕ). faults.BudgetOverSlice op) (least_unfit unfits.BudgetOverSlice from 0 books rows) _ d.1 in
    let f = none_is (λ (op : ℕ). faults.Unfit op) (least_unfit unfits.OverBudget from 0 books rows) e.1 in
    record {
      one_each = one;
      fit = λ i row book p q.
          none_at_all (unfit_from (operator_of_book book) from row)
          (not_this unfits.NotPast from 0 books rows a.0 i row book p q) (not_this unfits.Unfinished from 0 books rows b.0 i row book p q) (not_this unfits.OffFrame from 0 books rows c.0 i row book p q)
          (not_this unfits.BudgetOverSlice from 0 books rows e.0 i row book p q) (not_this unfits.OverBudget from 0 books rows f i row book p q);
      apart = AllPairs-from_pairs (λ (a b : SliceRow). slices_overlap (slice_of a) (slice_of b) ≡ false) rows (no_pairs 0 rows d.0);
    }

pub are_free : (from : ℕ) (books : List BookView) (rows : List SliceRow) → reslice_fault from books rows ≡ None → AreFree from books rows
are_free from books rows h = by (length rows == length books) refl h
  where
    by : (b : Bool) → (length rows == length books) ≡ b → (if b then row_fault from books rows else Some faults.Count) ≡ None → AreFree from books rows
    by true e h = rows_free from books rows (eqb-true (length rows) (length books) e) h
    by false e h = absurd (cc)
