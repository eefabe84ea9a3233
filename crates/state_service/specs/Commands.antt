-- Lines that are commands: each requests a snapshot, or another number for the next frame (implementation-specific).
use Rattle.std.specs.Prelude.{◌≡◌, ◌≢◌, ◌⊎◌, ◌||◌, ℕ, List, Bool, true, false}
use Rattle.std.specs.List.{AllByRecursion}
use Rattle.run_model.specs.IsStateAfter.{CoreView}
use Rattle.plant_core.specs.live.Resting.{Rests}
use Rattle.snapshot_format.specs.declared.saved.Snapshot.{Snapshot}
use Rattle.state_service.specs.durable.Durable.{IsKeptSnapshot, IsKeptState}
use Rattle.state_service.specs.declared.resumed.new_frame_fault.NewFrameFault.{NewFrameFault}
use Rattle.state_service.specs.declared.resumed.new_frame_fault.NewFrameFault.TheVariants as faults
use Rattle.state_service.specs.resumed.Items.{asks_snapshot, SnapshotIsGiven}
use Rattle.state_service.specs.resumed.NewFrames.{asks_frame, NamesFrame, IsCoreRenumbered, IsNewFrameFault, frame_text}
use Rattle.state_service.specs.declared.period_end.DueState.{DueState}
use Rattle.state_service.specs.declared.performing.CommandRefusal.{CommandRefusal}
use Rattle.state_service.specs.declared.performing.CommandRefusal.TheVariants.{NoSnapshot, NoNumber}
use Rattle.state_service.specs.declared.performing.CommandOutcome.{CommandOutcome}
use Rattle.state_service.specs.declared.performing.CommandOutcome.TheVariants.{Due, Refused}

-- ---- which lines are commands

-- the line `K`, and each line of at most 4,096 bytes that begins with `N`
abbrev pub is_command : List ℕ → Bool
is_command line = asks_snapshot line || asks_frame line

-- none of these lines is one
abbrev pub AreNoCommands : List (List ℕ) → Type 0
AreNoCommands lines = AllByRecursion (λ line. is_command line ≡ false) lines

-- ---- a command that is refused

-- the core rests before no frame, so there is no snapshot
pub record HasNoSnapshot (live : CoreView) (line : List ℕ) : Type 0 where
  pub requests : asks_snapshot line ≡ true
  pub restless : (frame : ℕ) → Rests live frame → ⊥

-- the next frame does not get the number, for a reason other than memory
pub record HasNoNumber (file : List ℕ) (live : CoreView) (line : List ℕ) (fault : NewFrameFault) : Type 0 where
  pub requests : asks_frame line ≡ true
  pub is : IsNewFrameFault file live line fault
  pub enough : fault ≢ faults.NoMemory

-- a line is a command, and a core with this plant file refuses it
abbrev pub IsRefusedCommand : List ℕ → CoreView → List ℕ → Type 0
IsRefusedCommand file live line = HasNoSnapshot live line ⊎ ((fault : NewFrameFault) × HasNoNumber file live line fault)

-- for this reason
abbrev pub IsCommandRefusedFor : List ℕ → CoreView → List ℕ → CommandRefusal → Type 0
IsCommandRefusedFor file live line NoSnapshot = HasNoSnapshot live line
IsCommandRefusedFor file live line (NoNumber why) = HasNoNumber file live line why

-- ---- a command that is performed

-- a line requests a snapshot, which is the answer, and the state is that of the core after so many lines
pub record IsSnapshotDue (file : List ℕ) (live : CoreView) (line : List ℕ) (count : ℕ) (due : DueState) : Type 0 where
  pub requests : asks_snapshot line ≡ true
  pub given : SnapshotIsGiven file live due.answer.items
  pub kept : IsKeptState live file count due.kept.snapshot due.kept.start.plant due.kept.start.saved

-- a line names a number, which the next frame can get, and the state is that of the core under that number
pub record IsNumberDue (file : List ℕ) (live : CoreView) (line : List ℕ) (count : ℕ) (due : DueState) : Type 0 where
  pub requests : asks_frame line ≡ true
  pub other : Snapshot
  pub names : NamesFrame line other.frame
  pub renumbered : IsCoreRenumbered file live other.frame other
  pub kept : IsKeptSnapshot other count due.kept.snapshot due.kept.start.plant due.kept.start.saved
  pub answer_is : due.answer.items ≡ frame_text other.frame

-- a command is performed: it requests a snapshot, or names a number that the next frame can get
abbrev pub IsCommandDue : List ℕ → CoreView → List ℕ → ℕ → DueState → Type 0
IsCommandDue file live line count due = IsSnapshotDue file live line count due ⊎ IsNumberDue file live line count due

-- what a command results in, as the line of this number
abbrev pub IsOutcomeOf : List ℕ → CoreView → List ℕ → ℕ → CommandOutcome → Type 0
IsOutcomeOf file live line number (Due due) = IsCommandDue file live line number due
IsOutcomeOf file live line number (Refused refusal) = IsCommandRefusedFor file live line refusal
