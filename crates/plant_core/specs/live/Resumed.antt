-- A live core of operators that are at work already (implementation-specific).
use Rattle.std.specs.Prelude.{◌≡◌, ◌≢◌, ℕ, ◌<◌, ◌≤◌, ◌⊎◌, ⊤, List, [], ◌∷◌, map, length, take, slice_get, All, option_map, Option, Some, None, if◌then◌else◌}
use Rattle.std.specs.Str.{bytes_eq}
use Rattle.slice_scheduler.specs.Minislots.{Minislots}
use Rattle.plant.specs.declared.operator_row.RowFields.{RowFields}
use Rattle.plant.specs.declared.plant.PlantFields.{PlantFields}
use Rattle.operator_model.specs.declared.share.Share.{Share}
use Rattle.operator_model.specs.declared.share.NextShare.{NextShare}
use Rattle.operator_model.specs.State.{OperatorState, Operator, opened_state}
use Rattle.operator_model.specs.Sound.{IsSound}
use Rattle.map_assembly.specs.declared.slicing.Reslicing.{Reslicing}
use Rattle.map_assembly.specs.Plan.{AreSlices, IsFirstInvalid}
use Rattle.run_model.specs.Starts.{Start}
use Rattle.plant_core.specs.declared.live.resume_fault.ResumeFault.{ResumeFault}
use Rattle.plant_core.specs.declared.live.resume_fault.ResumeFault.TheVariants.{NotAtFrame, SliceChangesDiffer, BeforeFirstFrame, InvalidSlice, InvalidNextSlice, NoMemory}

-- the state of the operator of this row's name among these, else this one
abbrev pub state_among : List Operator → OperatorState → RowFields → OperatorState
state_among [] other row = other
state_among (o ∷ ops) other row = if bytes_eq o.row.name row.name then o.state else state_among ops other row

-- the slice of an operator once what waits has taken force
abbrev pub slice_later : Share → Option NextShare → Minislots
slice_later share None = share.slice
slice_later share (Some next) = next.share.slice

-- the slice of an operator once what waits has taken force
abbrev pub later_of : Operator → Minislots
later_of o = slice_later o.state.share o.state.next

-- the slices that wait: those of all operators, where the first one's wait
abbrev pub waiting_if : Option NextShare → List Operator → List Reslicing
waiting_if None ops = []
waiting_if (Some next) ops = record { from = next.from; slicing = map later_of ops } ∷ []

-- the slices of all operators that wait for one frame, if the first operator's waits
abbrev pub waiting_among : List Operator → List Reslicing
waiting_among [] = []
waiting_among (o ∷ ops) = waiting_if o.state.next (o ∷ ops)

-- where operators at work start a core, at this frame; one that is not among them starts opened
abbrev pub start_with : PlantFields → ℕ → List Operator → Start
start_with plant frame ops = record {
  frame = frame;
  state = λ row. state_among ops (opened_state plant.consts row) row;
  waiting = waiting_among ops;
}

-- the frame from which an operator's slice waits
abbrev pub waits_from : Operator → Option ℕ
waits_from o = option_map (λ next. next.from) o.state.next

-- they are the plant's operators in its order, each sound under its row, all at this frame, and their slices wait for one frame, or none
-- does
pub record MayResume (plant : PlantFields) (frame : ℕ) (ops : List Operator) : Type 0 where
  pub rows_are : map (λ o. o.row) ops ≡ plant.rows
  pub consts_are : All (λ o. o.consts ≡ plant.consts) ops
  pub sound : All IsSound ops
  pub at_one_frame : All (λ o. o.state.frame ≡ frame) ops
  pub from : Option ℕ
  pub wait_alike : All (λ o. waits_from o ≡ from) ops

-- ---- why they are refused

-- the frame from which the first operator's slice waits
abbrev pub first_from : List Operator → Option ℕ
first_from [] = None
first_from (o ∷ ops) = waits_from o

-- an operator is at this frame, and its slice waits from this one on, or none waits
pub record GoesAlong (frame : ℕ) (from : Option ℕ) (o : Operator) : Type 0 where
  pub at_frame : o.state.frame ≡ frame
  pub waits : waits_from o ≡ from

-- all of them do, as the first one
abbrev pub GoTogether : ℕ → List Operator → Type 0
GoTogether frame ops = All (GoesAlong frame (first_from ops)) ops

-- the operators before this one go along, and this one does not, for this reason
pub record IsFirstOdd (frame : ℕ) (from : Option ℕ) (ops : List Operator) (op : ℕ) (reason : Operator → Type 0) : Type 0 where
  pub before : All (GoesAlong frame from) (take op ops)
  pub odd : Operator
  pub odd_is : slice_get ops op ≡ Some odd
  pub why : reason odd

-- the first operator that does not go along
abbrev pub IsOddFault : ℕ → Option ℕ → List Operator → ResumeFault → Type 0
IsOddFault frame from ops (NotAtFrame op) = IsFirstOdd frame from ops op (λ o. o.state.frame ≢ frame)
IsOddFault frame from ops (SliceChangesDiffer op) = IsFirstOdd frame from ops op (λ o. waits_from o ≢ from)
IsOddFault frame from ops BeforeFirstFrame = ⊥
IsOddFault frame from ops (InvalidSlice op) = ⊥
IsOddFault frame from ops (InvalidNextSlice op) = ⊥
IsOddFault frame from ops NoMemory = ⊥

-- the slices of all operators that are in force
abbrev pub slices_now : List Operator → List Minislots
slices_now ops = map (λ o. o.state.share.slice) ops

-- the slices of all operators once what waits has taken force
abbrev pub slices_next : List Operator → List Minislots
slices_next ops = map later_of ops

-- the first slice that is not valid; memory is asked for before slices are judged
abbrev pub IsSliceFault : PlantFields → List Operator → ResumeFault → Type 0
IsSliceFault plant ops (InvalidSlice op) = IsFirstInvalid plant.consts.channel (slices_now ops) op
IsSliceFault plant ops (InvalidNextSlice op) =
    AreSlices plant.consts.channel (length ops) (slices_now ops) × IsFirstInvalid plant.consts.channel (slices_next ops) op
IsSliceFault plant ops (NotAtFrame op) = ⊥
IsSliceFault plant ops (SliceChangesDiffer op) = ⊥
IsSliceFault plant ops BeforeFirstFrame = ⊥
IsSliceFault plant ops NoMemory = ⊤

-- what each refusal of a resumption says, with the first operator that it is about: an operator does not go along; else the frame is before
-- the plant's first one; else slices are not valid, or an allocation failed
abbrev pub IsResumeFault : PlantFields → ℕ → List Operator → ResumeFault → Type 0
IsResumeFault plant frame ops fault =
    IsOddFault frame (first_from ops) ops fault
    ⊎ (GoTogether frame ops
    × (((fault ≡ BeforeFirstFrame) × (frame < plant.consts.channel.first_frame))
    ⊎ ((plant.consts.channel.first_frame ≤ frame) × IsSliceFault plant ops fault)))
