-- Which slice each frame of a run has (implementation-specific).
use Rattle.std.specs.Prelude.{◌≡◌, ℕ, nat_le, List, [], ◌∷◌, ◌++◌, All, filter_map, find, reverse, Option, Some, None}
use Rattle.slice_scheduler.specs.Minislots.{Minislots}
use Rattle.operator_model.specs.declared.action.Action.{Action}
use Rattle.operator_model.specs.declared.action.Action.TheVariants.{Arrive, Work, Tick, Reslice}
use Rattle.operator_model.specs.declared.output.Output.{Output}
use Rattle.operator_model.specs.declared.output.Output.TheVariants as outputs
use Rattle.operator_model.specs.declared.share.NextShare.{NextShare}
use Rattle.plant.specs.declared.consts.ConstsFields.{ConstsFields}
use Rattle.plant.specs.declared.operator_row.RowFields.{RowFields}
use Rattle.operator_model.specs.declared.action.Entry.{Entry}
use Rattle.operator_model.specs.State.{OperatorState, Operator, operator, opened_state}
use Rattle.operator_model.specs.Machine.{after_step, own_run, IsAllowed}
use Rattle.operator_model.specs.Replay.{actions_of, IsReplay}
use Rattle.operator_model.specs.Sound.{IsSound}

-- a slice, and the first frame of which it is the slice
pub record SliceFrom : Type 0 where
  pub from : ℕ
  pub slice : Minislots

-- that of a slice change
abbrev pub slice_from : Action → Option SliceFrom
slice_from (Arrive modem heard) = None
slice_from Work = None
slice_from Tick = None
slice_from (Reslice from row) = Some (record { from = from; slice = record { start = row.start; length = row.length } })

-- the slice changes of a run, in order
abbrev pub reslicings_in : List Action → List SliceFrom
reslicings_in actions = filter_map slice_from actions

-- the slice of a slice change, if there is one, else this one
abbrev pub slice_or : Minislots → Option SliceFrom → Minislots
slice_or first None = first
slice_or first (Some reslicing) = reslicing.slice

-- the slice of a frame: that of the newest slice change that is not from a later frame on, at first the row's
abbrev pub slice_in_frame : Minislots → List SliceFrom → ℕ → Minislots
slice_in_frame first reslicings frame = slice_or first (find (λ r. nat_le r.from frame) (reverse reslicings))

-- the slice of a share that waits for its frame, as a slice change
abbrev pub waiting_slice : Option NextShare → List SliceFrom
waiting_slice None = []
waiting_slice (Some next) = record { from = next.from; slice = next.share.slice } ∷ []

-- the slice of a frame of a run from a state: at first that in force, then the one that waits, then those of the run
abbrev pub slice_of_run : OperatorState → List Action → ℕ → Minislots
slice_of_run state actions frame = slice_in_frame state.share.slice (waiting_slice state.next ++ reslicings_in actions) frame

-- a frame that is output is of the slice of its number
abbrev pub IsOfItsSlice : (ℕ → Minislots) → Output → Type 0
IsOfItsSlice slice (outputs.Reply modem bytes) = Unit {0}
IsOfItsSlice slice (outputs.Silent modem cause) = Unit {0}
IsOfItsSlice slice (outputs.Frame number elements) = elements.slice ≡ slice number

-- each action is allowed at its place in the run
abbrev pub MayRun : Operator → List Action → Type 0
MayRun o [] = Unit {0}
MayRun o (action ∷ actions) = IsAllowed o action × MayRun (after_step o action) actions

-- an operator before its first action
abbrev pub opened_operator : ConstsFields → RowFields → Operator
opened_operator consts row = operator consts row (opened_state consts row)

-- each frame of a run from a sound state is of the slice of its number
abbrev pub FramesFollowTheirState : Type 0
FramesFollowTheirState = (op : Operator) (actions : List Action) → IsSound op → MayRun op actions
    → All (IsOfItsSlice (slice_of_run op.state actions)) (own_run op actions).outputs

-- after a run from a sound state the slice of the frame that comes next is in force
abbrev pub NextSliceFollowsItsState : Type 0
NextSliceFollowsItsState = (op : Operator) (actions : List Action) → IsSound op → MayRun op actions
    → (own_run op actions).state.share.slice ≡ slice_of_run op.state actions (own_run op actions).state.frame

-- each frame that a run outputs is of the slice of its number
abbrev pub FramesHaveTheirSlices : Type 0
FramesHaveTheirSlices = (consts : ConstsFields) (row : RowFields) (actions : List Action) → MayRun (opened_operator consts row) actions
    → All (IsOfItsSlice (slice_in_frame row.slice (reslicings_in actions))) (own_run (opened_operator consts row) actions).outputs

-- after a run the slice of the frame that comes next is in force
abbrev pub NextSliceIsInForce : Type 0
NextSliceIsInForce = (consts : ConstsFields) (row : RowFields) (actions : List Action) → MayRun (opened_operator consts row) actions
    → (own_run (opened_operator consts row) actions).state.share.slice
    ≡ slice_in_frame row.slice (reslicings_in actions) (own_run (opened_operator consts row) actions).state.frame

-- in the replay of a history the slice of the frame that comes next is in force
abbrev pub ReplayedSliceIsInForce : Type 0
ReplayedSliceIsInForce = (consts : ConstsFields) (row : RowFields) (history : List Entry) (state : OperatorState)
    → IsReplay consts row history state → state.share.slice ≡ slice_in_frame row.slice (reslicings_in (actions_of history)) state.frame
