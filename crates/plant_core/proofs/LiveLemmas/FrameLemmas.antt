-- An action outputs one frame at most.
use Rattle.std.proofs.Common.{◌≡◌, ℕ, zero, suc, ◌+◌, ◌≤◌, List, [], ◌∷◌, ◌++◌, length, Some, None, refl, sym, ap, ◌∙◌, append-nil, arith}
use Rattle.plant_core.proofs.LiveLemmas.Common.{filter_map, slice_get, count_by, range_with_len, ConstsFields, RowFields, Action, Output, OperatorState, operator, own_step, frames_of}
use Rattle.operator_model.specs.declared.action.Action.TheVariants.{Arrive, Work, Tick, Reslice}
use Rattle.operator_model.specs.declared.output.Output.TheVariants.{Reply, Silent, Frame}
use Rattle.operator_model.specs.Frames.{frame_number, is_tick}
use Rattle.operator_model.proofs.FrameLemmas.{run_puts}

pub first_none : {X : Type 0} (xs : List X) → slice_get xs 0 ≡ None → xs ≡ []
first_none [] h = refl
first_none (x ∷ xs) h = cc

pub first_alone : {X : Type 0} (xs : List X) (x : X) → slice_get xs 0 ≡ Some x → length xs ≤ 1 → xs ≡ x ∷ []
first_alone [] x h few = cc
first_alone (y ∷ []) x h few = let same : y ≡ x = cc in ap (λ z. z ∷ []) same
first_alone (y ∷ z ∷ xs) x h few = absurd (omega (arith, few))

as_many : (outputs : List Output) → length (frames_of outputs) ≡ length (filter_map frame_number outputs)
as_many [] = refl
as_many (Reply modem bytes ∷ outputs) = as_many outputs
as_many (Silent modem cause ∷ outputs) = as_many outputs
as_many (Frame number elements ∷ outputs) = ap suc (as_many outputs)

ticks : (action : Action) → count_by is_tick (action ∷ []) ≤ 1
ticks (Arrive modem heard) = omega arith
ticks Work = omega arith
ticks Tick = omega arith
ticks (Reslice from row) = omega arith

long : (n count : ℕ) → length (range_with_len n count) ≡ count
long n zero = refl
long n (suc count) = ap suc (long (n + 1) count)

-- as many frames as the action is a tick
pub frames_are : (consts : ConstsFields) (row : RowFields) (state : OperatorState) (action : Action) → length (frames_of (own_step (operator consts row state) action).outputs) ≡ count_by is_tick (action ∷ [])
frames_are consts row state action =
    let puts = run_puts consts row state (action ∷ []) in
    let plain : (own_step (operator consts row state) action).outputs ++ [] ≡ (own_step (operator consts row state) action).outputs = append-nil (own_step (operator consts row state) action).outputs in
    as_many (own_step (operator consts row state) action).outputs
    ∙ (ap (λ (outputs : List Output). length (filter_map frame_number outputs)) (sym plain)
    ∙ (ap (λ (ns : List ℕ). length ns) puts.numbers ∙ long state.frame (count_by is_tick (action ∷ []))))

pub one_frame : (consts : ConstsFields) (row : RowFields) (state : OperatorState) (action : Action) → length (frames_of (own_step (operator consts row state) action).outputs) ≤ 1
one_frame consts row state action = omega (arith, frames_are consts row state action, ticks action)

-- an action that is no tick puts out no frame
pub no_frame : (consts : ConstsFields) (row : RowFields) (state : OperatorState) (action : Action) → count_by is_tick (action ∷ []) ≡ 0 → frames_of (own_step (operator consts row state) action).outputs ≡ []
no_frame consts row state action no_tick = none _ (frames_are consts row state action ∙ no_tick)
  where
    none : {X : Type 0} (xs : List X) → length xs ≡ 0 → xs ≡ []
    none [] h = refl
    none (x ∷ xs) h = cc
