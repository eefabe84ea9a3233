-- The frames of a run are numbered in order: a number tells its frame.
use Rattle.std.proofs.Common.{◌≡◌, ℕ, zero, suc, ◌+◌, ◌<◌, List, [], ◌∷◌, ◌++◌, map, count_by, Option, Some, None, if◌then◌else◌, ◌⊎◌, inl, inr, refl, sym, ap, ◌∙◌, subst, arith}
use Rattle.run_model.proofs.Common.{◌==◌, slice_get, filter_map, range_with_len, cases_eq, eq-eqb, ne_eqb, none-some, same_Some, ElementsFields, ConstsFields, RowFields, Output, OperatorState, opened_state, operator, Action, own_run, frame_numbers, is_tick, run_puts, front_or, Step, own_steps, Start, isolated_run, isolated_run_from, elements_at_frame, frames_of, AreNumbered}
use Rattle.operator_model.specs.declared.output.Output.TheVariants.{Reply, Silent, Frame}

abbrev pub Numbered : Type 0
Numbered = ℕ × ElementsFields

by_range : (n count : ℕ) (frames : List Numbered) → map (λ frame. frame.0) frames ≡ range_with_len n count → AreNumbered n frames
by_range n count [] h = tt
by_range n zero (frame ∷ frames) h = let e : ◌≡◌ {A = List ℕ} (frame.0 ∷ map (λ (f : Numbered). f.0) frames) [] = h in cc
by_range n (suc count) (frame ∷ frames) h =
    let e : ◌≡◌ {A = List ℕ} (frame.0 ∷ map (λ (f : Numbered). f.0) frames) (n ∷ range_with_len (n + 1) count) = h in
    let first : frame.0 ≡ n = cc in
    let rest : map (λ (f : Numbered). f.0) frames ≡ range_with_len (n + 1) count = cc in
    (first, by_range (n + 1) count frames rest)

pub numbers_are : (outputs : List Output) → map (λ frame. frame.0) (frames_of outputs) ≡ frame_numbers outputs
numbers_are [] = refl
numbers_are (Reply modem bytes ∷ outputs) = numbers_are outputs
numbers_are (Silent modem cause ∷ outputs) = numbers_are outputs
numbers_are (Frame number elements ∷ outputs) = ap (λ (ns : List ℕ). number ∷ ns) (numbers_are outputs)

-- the frames of a machine's run are numbered from its state's frame on
pub run_numbered : (consts : ConstsFields) (row : RowFields) (state : OperatorState) (actions : List Action) → AreNumbered state.frame (frames_of (own_run (operator consts row state) actions).outputs)
run_numbered consts row state actions =
    by_range state.frame (count_by is_tick actions) (frames_of (own_run (operator consts row state) actions).outputs)
    (numbers_are (own_run (operator consts row state) actions).outputs ∙ (run_puts consts row state actions).numbers)

-- those of an operator's own machine from the frame of its start on
pub numbered_from : (consts : ConstsFields) (start : Start) (row : RowFields) (i : ℕ) (steps : List Step) → (start.state row).frame ≡ start.frame → AreNumbered start.frame (frames_of (isolated_run_from consts start row i steps).outputs)
numbered_from consts start row i steps at =
    subst (λ (n : ℕ). AreNumbered n (frames_of (isolated_run_from consts start row i steps).outputs)) at (run_numbered consts row (start.state row) (own_steps row i steps))

-- from the plant's first frame on, where it is opened
pub are_numbered : (consts : ConstsFields) (row : RowFields) (i : ℕ) (steps : List Step) → AreNumbered consts.channel.first_frame (frames_of (isolated_run consts row i steps).outputs)
are_numbered consts row i steps = run_numbered consts row (opened_state consts row) (own_steps row i steps)

-- ---- the frame of a number

abbrev pub if_number : ℕ → Numbered → Option ElementsFields
if_number k frame = if frame.0 == k then Some frame.1 else None

abbrev pub of_number : ℕ → List Numbered → List ElementsFields
of_number k frames = filter_map (if_number k) frames

pub elements_are : (k : ℕ) (outputs : List Output) → elements_at_frame k outputs ≡ of_number k (frames_of outputs)
elements_are k [] = refl
elements_are k (Reply modem bytes ∷ outputs) = elements_are k outputs
elements_are k (Silent modem cause ∷ outputs) = elements_are k outputs
elements_are k (Frame number elements ∷ outputs) = by (cases_eq number k) (elements_are k outputs)
  where
    by : (number ≡ k) ⊎ (number ≡ k → ⊥) → elements_at_frame k outputs ≡ of_number k (frames_of outputs) → elements_at_frame k (Frame number elements ∷ outputs) ≡ of_number k (frames_of (Frame number elements ∷ outputs))
    by (inl e) rest = rw (eq-eqb number k e) (ap (λ (es : List ElementsFields). elements ∷ es) rest)
    by (inr ne) rest = rw (ne_eqb number k ne) rest

here : (k : ℕ) (frame : Numbered) (frames : List Numbered) → frame.0 ≡ k → of_number k (frame ∷ frames) ≡ frame.1 ∷ of_number k frames
here k frame frames e = rw (eq-eqb frame.0 k e) refl

past : (k : ℕ) (frame : Numbered) (frames : List Numbered) → (frame.0 ≡ k → ⊥) → of_number k (frame ∷ frames) ≡ of_number k frames
past k frame frames ne = rw (ne_eqb frame.0 k ne) refl

none_before : (k n : ℕ) (frames : List Numbered) → k < n → AreNumbered n frames → of_number k frames ≡ []
none_before k n [] lt h = refl
none_before k n (frame ∷ frames) lt h = past k frame frames (λ e. omega (arith, e, h.0)) ∙ none_before k (n + 1) frames (omega arith) h.1

-- the frame at a place has the number of that place
pub found_at : (n m : ℕ) (frames : List Numbered) (frame : Numbered) → AreNumbered n frames → slice_get frames m ≡ Some frame → of_number (n + m) frames ≡ frame.1 ∷ []
found_at n m [] frame h e = let f : ◌≡◌ {A = Option Numbered} None (Some frame) = e in absurd (none-some frame f)
found_at n zero (x ∷ frames) frame h e =
    let is : x ≡ frame = same_Some x frame e in
    here (n + 0) x frames (omega (arith, h.0)) ∙ (ap (λ (es : List ElementsFields). x.1 ∷ es) (none_before (n + 0) (n + 1) frames (omega arith) h.1) ∙ ap (λ (f : Numbered). f.1 ∷ []) is)
found_at n (suc m) (x ∷ frames) frame h e =
    let k : n + 1 + m ≡ n + suc m = omega arith in
    past (n + suc m) x frames (λ f. omega (arith, f, h.0))
    ∙ (ap (λ (j : ℕ). of_number j frames) (sym k) ∙ found_at (n + 1) m frames frame h.1 e)

-- further frames have other numbers
pub number_kept : (k n : ℕ) (frames more : List Numbered) (part : ElementsFields) → AreNumbered n (frames ++ more) → of_number k frames ≡ part ∷ [] → of_number k (frames ++ more) ≡ part ∷ []
number_kept k n [] more part h e = let f : ◌≡◌ {A = List ElementsFields} [] (part ∷ []) = e in cc
number_kept k n (frame ∷ frames) more part h e = by (cases_eq frame.0 k) (λ f. number_kept k (n + 1) frames more part h.1 f)
  where
    by : (frame.0 ≡ k) ⊎ (frame.0 ≡ k → ⊥) → (of_number k frames ≡ part ∷ [] → of_number k (frames ++ more) ≡ part ∷ []) → of_number k (frame ∷ frames ++ more) ≡ part ∷ []
    by (inl same) rest =
        let is : frame.1 ≡ part = ap (front_or part) (sym (here k frame frames same) ∙ e) in
        here k frame (frames ++ more) same
        ∙ (ap (λ (es : List ElementsFields). frame.1 ∷ es) (none_before k (n + 1) (frames ++ more) (omega (arith, same, h.0)) h.1) ∙ ap (λ (p : ElementsFields). p ∷ []) is)
    by (inr other) rest = past k frame (frames ++ more) other ∙ rest (sym (past k frame frames other) ∙ e)

-- nor have earlier ones
pub number_late : (k n : ℕ) (frames more : List Numbered) (part : ElementsFields) → AreNumbered n (frames ++ more) → of_number k more ≡ part ∷ [] → of_number k (frames ++ more) ≡ part ∷ []
number_late k n [] more part h e = e
number_late k n (frame ∷ frames) more part h e = by (cases_eq frame.0 k) (number_late k (n + 1) frames more part h.1 e)
  where
    by : (frame.0 ≡ k) ⊎ (frame.0 ≡ k → ⊥) → of_number k (frames ++ more) ≡ part ∷ [] → of_number k (frame ∷ frames ++ more) ≡ part ∷ []
    by (inl same) rest =
        let none : of_number k (frames ++ more) ≡ [] = none_before k (n + 1) (frames ++ more) (omega (arith, same, h.0)) h.1 in
        let wrong : ◌≡◌ {A = List ElementsFields} [] (part ∷ []) = sym none ∙ rest in cc
    by (inr other) rest = past k frame (frames ++ more) other ∙ rest
