-- Another number for the next frame of a plant in service, and why it does not get one (implementation-specific).
use Rattle.std.specs.Prelude.{◌≡◌, ◌≢◌, ◌<◌, ◌^◌, ◌&&◌, nat_le, ℕ, List, length, map, take, [], ◌∷◌, ◌++◌, Bool, None, Some, ⊤, codes}
use Rattle.std.specs.Fmt.{decimal}
use Rattle.std.specs.Str.{bytes_eq}
use Rattle.plant.specs.declared.plant.PlantFields.{PlantFields}
use Rattle.operator_model.specs.State.{OperatorState}
use Rattle.run_model.specs.IsStateAfter.{CoreView}
use Rattle.plant_core.specs.live.Resting.{Rests, IsRestFault}
use Rattle.line_service.specs.declared.line_outcome.LineOutcome.{LineOutcome}
use Rattle.line_service.specs.declared.line_outcome.LineOutcome.TheVariants as outcomes
use Rattle.line_service.specs.Service.{end_text}
use Rattle.snapshot_format.specs.declared.saved.Snapshot.{Snapshot}
use Rattle.snapshot_format.specs.States.{states_of}
use Rattle.plant_restart.specs.declared.fault.RestoreFault.{RestoreFault}
use Rattle.plant_restart.specs.declared.fault.RestoreFault.TheVariants as restore_faults
use Rattle.plant_restart.specs.declared.fault.RestartFault.TheVariants as restart_faults
use Rattle.plant_restart.specs.Restarted.{IsRestoreFault}
use Rattle.plant_restart.specs.Saving.{saved_book}
use Rattle.frame_numbers.specs.declared.fault.RenumberFault.{RenumberFault}
use Rattle.frame_numbers.specs.Numbering.{renumber_refusal, IsRenumberedSnapshot}
use Rattle.state_service.specs.declared.resumed.new_frame_fault.NewFrameFault.{NewFrameFault}
use Rattle.state_service.specs.declared.resumed.new_frame_fault.NewFrameFault.TheVariants.{NoNumber, Unfinished, NotRenumbered, BeforeFirstFrame, NotRestored, NoMemory}

-- ---- the line

-- a line of at most 4,096 bytes that begins with `N` requests another number for the next frame
abbrev pub asks_frame : List ℕ → Bool
asks_frame line = nat_le (length line) 4096 && bytes_eq (take 1 line) (codes "N")

-- it names this number: `N`, a space, and the number in its one spelling
abbrev pub NamesFrame : List ℕ → ℕ → Type 0
NamesFrame line to = (line ≡ codes "N " ++ decimal to) × (to < 2 ^ 32)

-- ---- the core under other numbers

-- the snapshot of a core that rests before this frame, with the text of the plant file
abbrev pub saved_core : List ℕ → CoreView → ℕ → Snapshot
saved_core file live frame = record { plant = file; frame = frame; operators = map saved_book live.books }

-- it is this one, and the core rests before its frame
pub record IsSavedCore (file : List ℕ) (live : CoreView) (saved : Snapshot) : Type 0 where
  pub rests : Rests live saved.frame
  pub saved_is : saved ≡ saved_core file live saved.frame

-- the core rests before a frame, that frame may be called `to`, and this is the snapshot of the core in which it is
pub record IsCoreRenumbered (file : List ℕ) (live : CoreView) (to : ℕ) (other : Snapshot) : Type 0 where
  pub frame : ℕ
  pub rests : Rests live frame
  pub accepted : renumber_refusal live.plant.consts to (saved_core file live frame) ≡ None
  pub renumbered : IsRenumberedSnapshot live.plant.consts.units to (saved_core file live frame) other

-- ---- why the frame does not get the number

-- the core rests before the frame `from`, which cannot be called `to`, for this reason
pub record IsRefusedNumber (file : List ℕ) (live : CoreView) (line : List ℕ) (from to : ℕ) (why : RenumberFault) : Type 0 where
  pub names : NamesFrame line to
  pub rests : Rests live from
  pub refused : renumber_refusal live.plant.consts to (saved_core file live from) ≡ Some why

-- it can, and yet that is before the plant's first frame
pub record IsEarlyNumber (file : List ℕ) (live : CoreView) (line : List ℕ) : Type 0 where
  pub to : ℕ
  pub names : NamesFrame line to
  pub from : ℕ
  pub rests : Rests live from
  pub accepted : renumber_refusal live.plant.consts to (saved_core file live from) ≡ None
  pub early : to < live.plant.consts.channel.first_frame

-- a plant does not start in these states, and not because memory ran out
abbrev pub IsNotStarted : PlantFields → ℕ → List (List ℕ × OperatorState) → RestoreFault → Type 0
IsNotStarted plant frame states why =
    IsRestoreFault plant frame states why × (why ≢ restore_faults.Restart restart_faults.NoMemory)

-- it is neither, and yet the plant does not start there
pub record IsRefusedStart (file : List ℕ) (live : CoreView) (line : List ℕ) (why : RestoreFault) : Type 0 where
  pub other : Snapshot
  pub names : NamesFrame line other.frame
  pub renumbered : IsCoreRenumbered file live other.frame other
  pub refused : IsNotStarted live.plant other.frame (states_of other) why

-- what a fault says of a plant that does not start in states
abbrev pub IsStartRefusal : PlantFields → ℕ → List (List ℕ × OperatorState) → NewFrameFault → Type 0
IsStartRefusal plant frame states NoNumber = ⊥
IsStartRefusal plant frame states (Unfinished why) = ⊥
IsStartRefusal plant frame states (NotRenumbered from to why) = ⊥
IsStartRefusal plant frame states BeforeFirstFrame = ⊥
IsStartRefusal plant frame states (NotRestored why) = IsNotStarted plant frame states why
IsStartRefusal plant frame states NoMemory = ⊤

-- what each fault says of why the next frame of a core, with the text of its plant file, keeps its number at this line. Each is stated
-- where none before it in the order of the faults is there, so of those but `NoMemory` one alone is there. Memory is asked for where the
-- core rests.
abbrev pub IsNewFrameFault : List ℕ → CoreView → List ℕ → NewFrameFault → Type 0
IsNewFrameFault file live line NoNumber = (to : ℕ) → NamesFrame line to → ⊥
IsNewFrameFault file live line (Unfinished why) = ((to : ℕ) × NamesFrame line to) × IsRestFault live why
IsNewFrameFault file live line (NotRenumbered from to why) = IsRefusedNumber file live line from to why
IsNewFrameFault file live line BeforeFirstFrame = IsEarlyNumber file live line
IsNewFrameFault file live line (NotRestored why) = IsRefusedStart file live line why
IsNewFrameFault file live line NoMemory = ((to : ℕ) × NamesFrame line to) × ((frame : ℕ) × Rests live frame)

-- ---- the answer

-- out of memory, or an invalid line
abbrev pub frame_refusal_outcome : NewFrameFault → LineOutcome
frame_refusal_outcome NoNumber = outcomes.AtFault
frame_refusal_outcome (Unfinished why) = outcomes.AtFault
frame_refusal_outcome (NotRenumbered from to why) = outcomes.AtFault
frame_refusal_outcome BeforeFirstFrame = outcomes.AtFault
frame_refusal_outcome (NotRestored why) = outcomes.AtFault
frame_refusal_outcome NoMemory = outcomes.NoMemory

-- the answer to a line `N` whose number the next frame does not get
abbrev pub frame_refusal_text : ℕ → NewFrameFault → List ℕ
frame_refusal_text number fault = end_text number (frame_refusal_outcome fault)

-- the number that the next frame has got
abbrev pub frame_text : ℕ → List ℕ
frame_text to = codes "N frame " ++ (decimal to ++ 10 ∷ [])
