-- The frame of a number among frames that are numbered one after the other.
use Rattle.std.proofs.Common.{◌≡◌, ℕ, zero, suc, ◌+◌, ◌<◌, ◌≤◌, List, [], ◌∷◌, ◌++◌, length, get_or, drop, append_assoc, map, ◌⊎◌, inl, inr, Option, Some, None, refl, sym, ap, ◌∙◌, arith}
use Rattle.plant_workers.proofs.ReceiptsLemmas.Common.{slice_get, range_with_len, cases_eq, cases_lt, ne_eqb, same_Some, slice_get-map, drop_more, filter_map-append, Entry, Operator, frame_numbers, actions_of, AreTold, elements_at_frame, history_outputs, Frame, frames_with_numbers}
use Rattle.std.specs.Option.{option_map}
use Rattle.operator_model.specs.declared.output.Output.{Output}
use Rattle.operator_model.specs.Machine.{own_step, after_step, own_run}
use Rattle.run_model.specs.IsStateAfter.{frames_of, AreNumbered, frame_with_number as numbered_output}
use Rattle.run_model.proofs.Numbers.{Numbered, of_number, elements_are, numbers_are, found_at}

none_within : (first k : ℕ) (frames : List Numbered) → AreNumbered first frames → (k < first) ⊎ (first + length frames ≤ k) → of_number k frames ≡ []
none_within first k [] h out = refl
none_within first k (frame ∷ frames) h out = skip (cases_eq frame.0 k) (none_within (first + 1) k frames h.1 (later out))
  where
    later : (k < first) ⊎ (first + length (frame ∷ frames) ≤ k) → (k < first + 1) ⊎ (first + 1 + length frames ≤ k)
    later (inl lt) = inl (omega arith)
    later (inr le) = inr (omega (arith, le))

    other : (k < first) ⊎ (first + length (frame ∷ frames) ≤ k) → frame.0 ≡ k → ⊥
    other (inl lt) e = omega (arith, lt, e, h.0)
    other (inr le) e = omega (arith, le, e, h.0)

    skip : (frame.0 ≡ k) ⊎ (frame.0 ≡ k → ⊥) → of_number k frames ≡ [] → of_number k (frame ∷ frames) ≡ []
    skip (inl e) rest = absurd (other out e)
    skip (inr ne) rest = rw (ne_eqb frame.0 k ne) rest

-- ---- the frame of a number

-- none has a number before the first, or past the last
pub none_of : (first k : ℕ) (frames : List Numbered) (outputs : List Output) → AreNumbered first frames → frames ≡ frames_of outputs
    → (k < first) ⊎ (first + length frames ≤ k) → elements_at_frame k outputs ≡ []
none_of first k frames outputs order same out = elements_are k outputs ∙ (ap (of_number k) (sym same) ∙ none_within first k frames order out)

-- the one at a place has the number of that place
pub one_of : (first k m : ℕ) (frame : Numbered) (frames : List Numbered) (outputs : List Output) → AreNumbered first frames → frames ≡ frames_of outputs
    → slice_get frames m ≡ Some frame → first + m ≡ k → elements_at_frame k outputs ≡ frame.1 ∷ []
one_of first k m frame frames outputs order same at number =
    elements_are k outputs ∙ (ap (of_number k) (sym same) ∙ (ap (λ (j : ℕ). of_number j frames) (sym number) ∙ found_at first m frames frame order at))

-- ---- the frames of a history

-- what a history put out is what the machine's run of its actions puts out
pub told_outputs : (o : Operator) (history : List Entry) → AreTold o history → history_outputs history ≡ (own_run o (actions_of history)).outputs
told_outputs o [] h = refl
told_outputs o (entry ∷ history) h =
    ap (λ (os : List Output). os ++ history_outputs history) h.1
    ∙ ap (λ (os : List Output). (own_step o entry.action).outputs ++ os) (told_outputs (after_step o entry.action) history h.2)

in_order : (first count : ℕ) (frames : List Numbered) → map (λ frame. frame.0) frames ≡ range_with_len first count → AreNumbered first frames
in_order first count [] h = tt
in_order first zero (frame ∷ frames) h = let e : ◌≡◌ {A = List ℕ} (frame.0 ∷ map (λ (f : Numbered). f.0) frames) [] = h in cc
in_order first (suc count) (frame ∷ frames) h =
    let e : ◌≡◌ {A = List ℕ} (frame.0 ∷ map (λ (f : Numbered). f.0) frames) (first ∷ range_with_len (first + 1) count) = h in
    let here : frame.0 ≡ first = cc in
    let rest : map (λ (f : Numbered). f.0) frames ≡ range_with_len (first + 1) count = cc in
    (here, in_order (first + 1) count frames rest)

-- the frames of a run, whose numbers have no gap
pub run_in_order : (first count : ℕ) (outputs : List Output) (frames : List Numbered) → frames ≡ frames_of outputs → frame_numbers outputs ≡ range_with_len first count → AreNumbered first frames
run_in_order first count outputs frames same numbers =
    in_order first count frames (ap (λ (fs : List Numbered). map (λ (f : Numbered). f.0) fs) same ∙ (numbers_are outputs ∙ numbers))

-- ---- frames with their numbers

first_number : (n : ℕ) (frames : List Numbered) (x : Numbered) → AreNumbered n frames → slice_get frames 0 ≡ Some x → x.0 ≡ n
first_number n [] x order at = cc
first_number n (y ∷ frames) x order at = ap (λ (f : Numbered). f.0) (sym (same_Some y x at)) ∙ order.0

no_first : {X : Type 0} (xs : List X) → ◌≡◌ {A = Option X} None (slice_get xs 0) → length xs ≡ 0
no_first [] at = refl
no_first (x ∷ xs) at = cc

numbered_long : (frames : List Frame) → length (frames_with_numbers frames) ≡ length frames
numbered_long [] = refl
numbered_long (frame ∷ frames) = ap suc (numbered_long frames)

module _ (frames : List Frame) (first : ℕ) (order : AreNumbered first (frames_with_numbers frames)) (outputs : List Output) (same : frames_with_numbers frames ≡ frames_of outputs) (k : ℕ) where
  frame_at : (m : ℕ) (x : Frame) → Some x ≡ slice_get frames m → slice_get (frames_with_numbers frames) m ≡ Some (x.number, x.elements.now)
  frame_at m x at = slice_get-map (λ (f : Frame). (f.number, f.elements.now)) frames m ∙ ap (option_map (λ (f : Frame). (f.number, f.elements.now))) (sym at)

  is_first : (x : Frame) → Some x ≡ slice_get frames 0 → x.number ≡ first
  is_first x at = first_number first (frames_with_numbers frames) (x.number, x.elements.now) order (frame_at 0 x at)

  long : length (frames_with_numbers frames) ≡ length frames
  long = numbered_long frames

  pub empty_none : ◌≡◌ {A = Option Frame} None (slice_get frames 0) → elements_at_frame k outputs ≡ []
  empty_none at = none_of first k (frames_with_numbers frames) outputs order same (either (cases_lt k first))
    where
      either : (k < first) ⊎ (first ≤ k) → (k < first) ⊎ (first + length (frames_with_numbers frames) ≤ k)
      either (inl lt) = inl lt
      either (inr le) = inr (let none : length (frames_with_numbers frames) ≡ 0 = long ∙ no_first frames at in omega (arith, none, le))

  pub low_none : (x : Frame) → Some x ≡ slice_get frames 0 → (x.number ≤ k → ⊥) → elements_at_frame k outputs ≡ []
  low_none x at low = none_of first k (frames_with_numbers frames) outputs order same (inl (let e : x.number ≡ first = is_first x at in omega (arith, e, low)))

  pub high_none : (x : Frame) (m : ℕ) → Some x ≡ slice_get frames 0 → x.number + m ≡ k → length frames ≤ m → elements_at_frame k outputs ≡ []
  high_none x m at number past =
      none_of first k (frames_with_numbers frames) outputs order same (inr (let e : x.number ≡ first = is_first x at in omega (arith, e, number, past, long)))

  pub found : (x y : Frame) (m : ℕ) → Some x ≡ slice_get frames 0 → x.number + m ≡ k → Some y ≡ slice_get frames m → elements_at_frame k outputs ≡ y.elements.now ∷ []
  found x y m at number there =
      let e : x.number ≡ first = is_first x at in
      one_of first k m (y.number, y.elements.now) (frames_with_numbers frames) outputs order same (frame_at m y there) (omega (arith, e, number))

-- the frames of one entry more
pub frames_more : (history : List Entry) (i : ℕ) (entry : Entry) (outputs : List Output) (made new : List Frame) → i < length history → entry ≡ get_or history i entry
    → outputs ≡ entry.outputs → frames_with_numbers new ≡ frames_with_numbers made ++ frames_of outputs
    → frames_with_numbers made ++ frames_of (history_outputs (drop i history)) ≡ frames_of (history_outputs history)
    → frames_with_numbers new ++ frames_of (history_outputs (drop (i + 1) history)) ≡ frames_of (history_outputs history)
frames_more history i entry outputs made new lt is same grown so_far =
    let split : drop i history ≡ entry ∷ drop (i + 1) history = drop_more history i entry lt ∙ ap (λ (e : Entry). e ∷ drop (i + 1) history) (sym is) in
    let here : frames_of (history_outputs (drop i history)) ≡ frames_of outputs ++ frames_of (history_outputs (drop (i + 1) history)) =
    ap (λ (es : List Entry). frames_of (history_outputs es)) split
    ∙ (filter_map-append numbered_output entry.outputs (history_outputs (drop (i + 1) history))
    ∙ ap (λ (os : List Output). frames_of os ++ frames_of (history_outputs (drop (i + 1) history))) (sym same)) in
    ap (λ (fs : List Numbered). fs ++ frames_of (history_outputs (drop (i + 1) history))) grown
    ∙ (append_assoc (frames_with_numbers made) (frames_of outputs) (frames_of (history_outputs (drop (i + 1) history)))
    ∙ (ap (λ (fs : List Numbered). frames_with_numbers made ++ fs) (sym here) ∙ so_far))
