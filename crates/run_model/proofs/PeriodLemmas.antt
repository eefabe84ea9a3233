-- An operator that goes through plants notices what its own machine puts out.
use Rattle.std.proofs.Common.{◌≡◌, ℕ, List, [], ◌∷◌, ◌++◌, append_assoc, ◌⊎◌, inl, inr, refl, sym, ap, ◌∙◌, subst, arith}
use Rattle.run_model.proofs.Common.{Contains, filter_map-append, Contains-append_cases, ElementsFields, ConstsFields, RowFields, Action, Output, OperatorState, operator, own_step, own_run, MapBytes, MapView, MapReads, part_of, own_part, own_steps, answers_of, maps_in, isolated_run_from, elements_at_frame, AreNumbered, frames_of, frame_with_number, Period, IsPeriodOf, ArePeriodsOf, steps_over, answers_over, maps_over, NoticesAlike}
use Rattle.run_model.proofs.Numbers.{run_numbered, elements_are, of_number, number_kept, number_late}
use Rattle.run_model.proofs.SharingOut.{shared_from}
use Rattle.run_model.proofs.TwoRuns.{one_part}

module _ (consts : ConstsFields) (row : RowFields) where
  -- what a run puts out that goes on
  goes_on : (state : OperatorState) (front back : List Action)
      → (own_run (operator consts row state) (front ++ back)).outputs ≡ (own_run (operator consts row state) front).outputs ++ (own_run (operator consts row (own_run (operator consts row state) front).state) back).outputs
  goes_on state [] back = refl
  goes_on state (action ∷ front) back =
      let next : OperatorState = (own_step (operator consts row state) action).state in
      let first : List Output = (own_step (operator consts row state) action).outputs in
      ap (λ (os : List Output). first ++ os) (goes_on next front back)
      ∙ sym (append_assoc first (own_run (operator consts row next) front).outputs (own_run (operator consts row (own_run (operator consts row next) front).state) back).outputs)

  module _ (state : OperatorState) (x : Period) (stood : IsPeriodOf consts row state x) where
    mine : List Action
    mine = own_steps row x.place x.steps

    stood_run : (isolated_run_from x.plant.consts x.start row x.place x.steps).outputs ≡ (own_run (operator consts row state) (own_steps row x.place x.steps)).outputs
    stood_run = λ k. (own_run (operator (stood.consts_are k) row (stood.starts k)) (own_steps row x.place x.steps)).outputs

    stood_answers : answers_of x.place x.outs ≡ (own_run (operator consts row state) (own_steps row x.place x.steps)).outputs
    stood_answers = stood.shown.answers x.place row stood.row_is ∙ stood_run

  all_answers : (state : OperatorState) (xs : List Period) → ArePeriodsOf consts row state xs → answers_over xs ≡ (own_run (operator consts row state) (steps_over row xs)).outputs
  all_answers state [] went = refl
  all_answers state (x ∷ xs) went =
      let own : List Action = own_steps row x.place x.steps in
      let next : OperatorState = (own_run (operator consts row state) own).state in
      (λ k. stood_answers state x went.0 k ++ all_answers next xs went.1 k) ∙ sym (goes_on state own (steps_over row xs))

  -- an operator's part of a MAP is its machine's frame of that number
  record IsPartIn (outputs : List Output) (made : MapBytes) (view : MapView) : Type 0 where
    pub part : ElementsFields
    pub put : elements_at_frame made.frame outputs ≡ part ∷ []
    pub part_is : part_of row.sids view ≡ own_part part

  whole_numbered : (state : OperatorState) (front back : List Action)
      → AreNumbered state.frame (frames_of (own_run (operator consts row state) front).outputs ++ frames_of (own_run (operator consts row (own_run (operator consts row state) front).state) back).outputs)
  whole_numbered state front back =
      let a : List Output = (own_run (operator consts row state) front).outputs in
      let b : List Output = (own_run (operator consts row (own_run (operator consts row state) front).state) back).outputs in
      subst (AreNumbered state.frame) (ap frames_of (goes_on state front back) ∙ filter_map-append frame_with_number a b) (run_numbered consts row state (front ++ back))

  -- the frame of a number in a whole run
  module _ (state : OperatorState) (front back : List Action) (k : ℕ) (part : ElementsFields) where
    whole_of : elements_at_frame k (own_run (operator consts row state) (front ++ back)).outputs
        ≡ of_number k (frames_of (own_run (operator consts row state) front).outputs ++ frames_of (own_run (operator consts row (own_run (operator consts row state) front).state) back).outputs)
    whole_of =
        let a : List Output = (own_run (operator consts row state) front).outputs in
        let b : List Output = (own_run (operator consts row (own_run (operator consts row state) front).state) back).outputs in
        ap (elements_at_frame k) (goes_on state front back) ∙ (elements_are k (a ++ b) ∙ ap (of_number k) (filter_map-append frame_with_number a b))

    in_front : elements_at_frame k (own_run (operator consts row state) front).outputs ≡ part ∷ [] → elements_at_frame k (own_run (operator consts row state) (front ++ back)).outputs ≡ part ∷ []
    in_front e =
        let a : List Output = (own_run (operator consts row state) front).outputs in
        let b : List Output = (own_run (operator consts row (own_run (operator consts row state) front).state) back).outputs in
        whole_of ∙ number_kept k state.frame (frames_of a) (frames_of b) part (whole_numbered state front back) (sym (elements_are k a) ∙ e)

    in_back : elements_at_frame k (own_run (operator consts row (own_run (operator consts row state) front).state) back).outputs ≡ part ∷ [] → elements_at_frame k (own_run (operator consts row state) (front ++ back)).outputs ≡ part ∷ []
    in_back e =
        let a : List Output = (own_run (operator consts row state) front).outputs in
        let b : List Output = (own_run (operator consts row (own_run (operator consts row state) front).state) back).outputs in
        whole_of ∙ number_late k state.frame (frames_of a) (frames_of b) part (whole_numbered state front back) (sym (elements_are k b) ∙ e)

  all_parts : (state : OperatorState) (xs : List Period) (made : MapBytes) (view : MapView) → ArePeriodsOf consts row state xs → Contains (maps_over xs) made → MapReads made.bytes view
      → IsPartIn (own_run (operator consts row state) (steps_over row xs)).outputs made view
  all_parts state [] made view went within reads = absurd (omega (arith, within.1))
  all_parts state (x ∷ xs) made view went within reads =
      by (Contains-append_cases (maps_in x.outs) (maps_over xs) made within)
      (λ there. all_parts (own_run (operator consts row state) (own_steps row x.place x.steps)).state xs made view went.1 there reads)
    where
      by : Contains (maps_in x.outs) made ⊎ Contains (maps_over xs) made
          → (Contains (maps_over xs) made → IsPartIn (own_run (operator consts row (own_run (operator consts row state) (own_steps row x.place x.steps)).state) (steps_over row xs)).outputs made view) → IsPartIn (own_run (operator consts row state) (steps_over row (x ∷ xs))).outputs made view
      by (inl here) later =
          let mine = (shared_from x.plant x.start x.steps x.outs made view went.0.shown here reads).own x.place row went.0.row_is in
          record {
            part = mine.part;
            put = in_front state (own_steps row x.place x.steps) (steps_over row xs) made.frame mine.part (sym (ap (elements_at_frame made.frame) (stood_run state x went.0)) ∙ mine.put);
            part_is = mine.part_is;
          }
      by (inr there) later =
          let rest = later there in
          record {
            part = rest.part;
            put = in_back state (own_steps row x.place x.steps) (steps_over row xs) made.frame rest.part rest.put;
            part_is = rest.part_is;
          }

pub alike : (consts : ConstsFields) (row : RowFields) (state : OperatorState) (xs ys : List Period) → ArePeriodsOf consts row state xs → ArePeriodsOf consts row state ys → steps_over row xs ≡ steps_over row ys → NoticesAlike row xs ys
alike consts row state xs ys here there same =
    let outputs : (own_run (operator consts row state) (steps_over row xs)).outputs ≡ (own_run (operator consts row state) (steps_over row ys)).outputs =
    ap (λ (actions : List Action). (own_run (operator consts row state) actions).outputs) same in
    record {
      answers = all_answers consts row state xs here ∙ (outputs ∙ sym (all_answers consts row state ys there));
      parts = λ a b v w in_a in_b frame reads_a reads_b.
          let x = all_parts consts row state xs a v here in_a reads_a in
          let y = all_parts consts row state ys b w there in_b reads_b in
          x.part_is
          ∙ (ap own_part (one_part x.part y.part (elements_at_frame a.frame (own_run (operator consts row state) (steps_over row xs)).outputs) (elements_at_frame b.frame (own_run (operator consts row state) (steps_over row ys)).outputs) x.put y.put
          (λ k. elements_at_frame (frame k) (outputs k))) ∙ sym y.part_is);
    }
