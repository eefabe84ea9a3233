-- Each frame that a machine's own run puts out is a part that its operator may put.
use Rattle.std.proofs.Common.{◌≡◌, ℕ, zero, suc, ◌+◌, ◌≤◌, true, List, [], ◌∷◌, ◌++◌, length, map, refl, sym, ap, ◌∙◌, subst}
use Rattle.run_model.proofs.Common.{slice_get, Option, Some, None, All, AllByRecursion, list_all, none-some, same_Some, filter_map-append, recursion_from_All, Minislots, ElementsFields, recursion-append, ConstsFields, RowFields, Action, Arrive, Work, Tick, Reslice, Entry, Output, OperatorState, operator, resent, tick_result, frame_elements, frame_numbers, actions_of, AreTold, IsOfItsSlice, MayRun, IsSound, arrived_none, worked_none, frames_of, frame_with_number}
use Rattle.transactions.specs.declared.tick.Resend.{Resend}
use Rattle.transactions.specs.Timers.{resent_in}
use Rattle.operator_model.specs.declared.output.Output.TheVariants as outputs
use Rattle.operator_model.specs.Machine.{arrival_result, work_result, own_step, own_run}
use Rattle.operator_model.specs.Part.{is_own_sid}
use Rattle.operator_model.proofs.PartLemmas.{part_spans, part_pending, part_few}
use Rattle.operator_model.proofs.StepLemmas.{step_sound}
use Rattle.run_model.proofs.Numbers.{Numbered, numbers_are}

-- what stands at a place of a list
pub at_place : {X : Type 0} (P : X → Type 0) (xs : List X) (n : ℕ) (x : X) → AllByRecursion P xs → slice_get xs n ≡ Some x → P x
at_place P [] n x h e = let f : ◌≡◌ {A = Option _} None (Some x) = e in absurd (none-some x f)
at_place P (y ∷ ys) zero x h e = subst P (same_Some y x e) h.0
at_place P (y ∷ ys) (suc n) x h e = at_place P ys n x h.1 e

-- ---- their SIDs and their number

-- the SIDs are the row's or nobody's, and the elements are no more than the row's quota and one
pub record IsOwn (row : RowFields) (part : ElementsFields) : Type 0 where
  pub spans : list_all (λ span. is_own_sid row.sids span.sid) part.spans ≡ true
  pub pending : list_all (λ sid. is_own_sid row.sids sid) part.pending ≡ true
  pub few : length part.spans + length part.pending ≤ row.elements + 1

abbrev OwnFrames : RowFields → List Output → Type 0
OwnFrames row outputs = AllByRecursion (λ frame. IsOwn row frame.1) (frames_of outputs)

none_of_none : (frames : List Numbered) → map (λ frame. frame.0) frames ≡ [] → frames ≡ []
none_of_none [] e = refl
none_of_none (frame ∷ frames) e = cc

no_frames : (row : RowFields) (puts : List Output) → frame_numbers puts ≡ [] → OwnFrames row puts
no_frames row puts none =
    subst (λ (frames : List Numbered). AllByRecursion (λ frame. IsOwn row frame.1) frames)
    (sym (none_of_none (frames_of puts) (numbers_are puts ∙ none))) tt

no_resent : (resends : List Resend) → frames_of (map resent resends) ≡ []
no_resent [] = refl
no_resent (resend ∷ resends) = no_resent resends

module _ (consts : ConstsFields) (row : RowFields) where
  tick_frames : (state : OperatorState) → frames_of (tick_result (operator consts row state)).outputs ≡ (state.frame, frame_elements (operator consts row state)) ∷ []
  tick_frames state =
      filter_map-append frame_with_number (map resent (resent_in state.kept)) (outputs.Frame state.frame (frame_elements (operator consts row state)) ∷ [])
      ∙ ap (λ (frames : List Numbered). frames ++ (state.frame, frame_elements (operator consts row state)) ∷ []) (no_resent (resent_in state.kept))

  step_own : (state : OperatorState) (action : Action) → IsSound (operator consts row state) → OwnFrames row (own_step (operator consts row state) action).outputs
  unfolding own_step
  step_own state (Arrive modem heard) sound = no_frames row (arrival_result (operator consts row state) modem heard).outputs (arrived_none (operator consts row state) modem heard).numbers
  step_own state Work sound = no_frames row (work_result (operator consts row state) state.inbox).outputs (worked_none (operator consts row state) state.inbox).numbers
  step_own state Tick sound =
      subst (λ (frames : List Numbered). AllByRecursion (λ frame. IsOwn row frame.1) frames) (sym (tick_frames state))
      (record { spans = part_spans (operator consts row state) sound; pending = part_pending (operator consts row state) sound; few = part_few (operator consts row state) sound }, tt)
  step_own state (Reslice from offered) sound = tt

  pub run_own : (state : OperatorState) (actions : List Action) → IsSound (operator consts row state) → MayRun (operator consts row state) actions → OwnFrames row (own_run (operator consts row state) actions).outputs
  run_own state [] sound may = tt
  run_own state (action ∷ actions) sound may =
      let first = own_step (operator consts row state) action in
      subst (λ (frames : List Numbered). AllByRecursion (λ frame. IsOwn row frame.1) frames)
      (sym (filter_map-append frame_with_number first.outputs (own_run (operator consts row first.state) actions).outputs))
      (recursion-append (λ (frame : Numbered). IsOwn row frame.1) (frames_of first.outputs) (frames_of (own_run (operator consts row first.state) actions).outputs)
      (step_own state action sound) (run_own first.state actions (step_sound (operator consts row state) sound action may.0) may.1))

  pub told_may : (state : OperatorState) (history : List Entry) → AreTold (operator consts row state) history → MayRun (operator consts row state) (actions_of history)
  told_may state [] told = tt
  told_may state (entry ∷ history) told = (told.0, told_may (own_step (operator consts row state) entry.action).state history told.2)

-- ---- their slices

frames_of_slices : (slice : ℕ → Minislots) (puts : List Output) → AllByRecursion (IsOfItsSlice slice) puts → AllByRecursion (λ (frame : Numbered). frame.1.slice ≡ slice frame.0) (frames_of puts)
frames_of_slices slice [] h = tt
frames_of_slices slice (outputs.Reply modem bytes ∷ puts) h = frames_of_slices slice puts h.1
frames_of_slices slice (outputs.Silent modem cause ∷ puts) h = frames_of_slices slice puts h.1
frames_of_slices slice (outputs.Frame number elements ∷ puts) h = (h.0, frames_of_slices slice puts h.1)

pub of_slices : (slice : ℕ → Minislots) (puts : List Output) → All (IsOfItsSlice slice) puts → AllByRecursion (λ (frame : Numbered). frame.1.slice ≡ slice frame.0) (frames_of puts)
of_slices slice puts h = frames_of_slices slice puts (recursion_from_All (IsOfItsSlice slice) puts h)
