-- What contracts see of an operator at work (implementation-specific).
use Rattle.std.specs.Prelude.{◌≡◌, ℕ, Option}
use Rattle.slice_scheduler.specs.Minislots.{Minislots}
use Rattle.plant.specs.declared.consts.ConstsFields.{ConstsFields}
use Rattle.plant.specs.declared.operator_row.RowFields.{RowFields}
use Rattle.operator_model.specs.State.{Operator}
use Rattle.operator_model.specs.Sound.{IsSound}
use Rattle.operator_model.specs.Replay.{BookView}
use Rattle.operator_book.specs.declared.live.Machine.{Machine}
use Rattle.plant_core.specs.declared.live.resume_fault.ResumeFault.{ResumeFault}
use Rattle.plant_core.specs.declared.live.resume_fault.ResumeFault.TheVariants.{NotAtFrame, SliceChangesDiffer, BeforeFirstFrame}
use Rattle.plant_core.specs.declared.live.resume_fault.ResumeFault.TheVariants.{InvalidSlice, InvalidNextSlice, NoMemory}
use Rattle.plant_core.specs.live.DeskView.{book_of}
use Rattle.plant_core.specs.live.Resumed.{later_of, waits_from}

-- the operator of a machine: what all operators share, its row and its state
abbrev pub sound_of : Machine → Operator
sound_of live = live.sound

-- the operator's row
abbrev pub row_of : Machine → RowFields
row_of live = live.sound.row

-- the slice in force
abbrev pub current_slice : Machine → Minislots
current_slice live = live.sound.state.share.slice

-- the slice once what waits has taken force
abbrev pub later_at : Machine → Minislots
later_at live = later_of live.sound

-- its book, without a history
abbrev pub book_by : Machine → BookView
book_by live = book_of live.sound

-- the state is sound under the operator's row
abbrev pub IsSoundAt : Machine → Type 0
IsSoundAt live = IsSound live.sound

-- the operator shares these constants with the others
abbrev pub Shares : ConstsFields → Machine → Type 0
Shares consts live = live.sound.consts ≡ consts

-- the next frame of the operator is this one
abbrev pub IsAtFrame : ℕ → Machine → Type 0
IsAtFrame frame live = live.sound.state.frame ≡ frame

-- the operator's slice waits from this frame on, or none waits
abbrev pub WaitsFrom : Option ℕ → Machine → Type 0
WaitsFrom from live = waits_from live.sound ≡ from

-- this operator does not go along with the others, for the reason that the fault names
abbrev pub IsOdd : ℕ → Option ℕ → ℕ → Machine → ResumeFault → Type 0
IsOdd frame from op live (NotAtFrame at) = (at ≡ op) × ¬ IsAtFrame frame live
IsOdd frame from op live (SliceChangesDiffer at) = (at ≡ op) × ¬ WaitsFrom from live
IsOdd frame from op live BeforeFirstFrame = ⊥
IsOdd frame from op live (InvalidSlice at) = ⊥
IsOdd frame from op live (InvalidNextSlice at) = ⊥
IsOdd frame from op live NoMemory = ⊥
