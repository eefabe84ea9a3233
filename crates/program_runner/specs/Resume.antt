-- The commands `resume`, `restore` and `snapshot`, and what they write (implementation-specific).
use Rattle.std.specs.Prelude.{◌≡◌, ◌≢◌, ◌⊎◌, ℕ, List, [], ◌∷◌, ◌++◌, Option, None, IfSome, MatchBool, codes}
use Rattle.std.specs.Fmt.{decimal}
use Rattle.std.specs.Io.KnownBytes.{Appends}
use Rattle.plant_core.specs.declared.live.rest_fault.RestFault.{RestFault}
use Rattle.plant_script.specs.Check.{fault_text}
use Rattle.plant_script.specs.Run.{memory_line, io_line}
use Rattle.state_service.specs.declared.resumed.begin_fault.BeginFault.{BeginFault}
use Rattle.state_service.specs.declared.resumed.begin_fault.BeginFault.TheVariants.{NotText, InvalidSnapshot, InvalidPlant, NotRestored, NoMemory}
use Rattle.state_service.specs.declared.resumed.saving.SnapshotEnd.{SnapshotEnd}
use Rattle.state_service.specs.declared.resumed.saving.SnapshotEnd.TheVariants as saving
use Rattle.state_service.specs.resumed.Beginning.{is_snapshot_head, front_text, lines_after, IsBeginFault}
use Rattle.state_service.specs.resumed.Resumed.{IsResumedService}
use Rattle.state_service.specs.resumed.SavedAfter.{IsSnapshotAfter}
use Rattle.snapshot_format.specs.declared.fault.Wrong.TheVariants.{Version}

-- the help of a command is written, with status 0
abbrev pub WritesHelp : ℕ → Option (List ℕ) → Option (List ℕ) → Type 0
WritesHelp status old new = (status ≡ 0) × ((text : List ℕ) × Appends old new text)

-- the line of a saved state that is refused
abbrev pub state_line : List ℕ
state_line = codes "fault: state" ++ 10 ∷ []

-- the exit status of a service that does not begin, by its fault
abbrev pub begin_status : BeginFault → ℕ
begin_status NotText = 6
begin_status (InvalidSnapshot number wrong) = 3
begin_status (InvalidPlant fault) = 3
begin_status (NotRestored why) = 3
begin_status NoMemory = 5

-- the line of a service that does not begin, by its fault
abbrev pub begin_line : BeginFault → List ℕ
begin_line NotText = io_line
begin_line (InvalidSnapshot number wrong) = codes "fault: snapshot " ++ (decimal number ++ 10 ∷ [])
begin_line (InvalidPlant fault) = codes "fault: plant " ++ fault_text fault
begin_line (NotRestored why) = state_line
begin_line NoMemory = memory_line

-- its status and its line are written; or that memory ran out for the line
abbrev pub RefusesToBegin : BeginFault → ℕ → Option (List ℕ) → Option (List ℕ) → Type 0
RefusesToBegin fault status old new =
    ((status ≡ begin_status fault) × Appends old new (begin_line fault)) ⊎ ((status ≡ 5) × Appends old new memory_line)

-- ---- the command `resume`

-- the lines are answered; or the service does not begin, and its fault is written
abbrev pub ResumeEnds : List ℕ → List ℕ → ℕ → Option (List ℕ) → Option (List ℕ) → Type 0
ResumeEnds text lines status old new =
    ((status ≡ 0) × IsResumedService text lines old new)
    ⊎ ((fault : BeginFault) × IsBeginFault text fault × (status ≡ begin_status fault) × Appends old new (begin_line fault))

-- what the command `resume` writes for an input; status 6 is for what could not be read or written
abbrev pub IsResumeAnswer : Option (List ℕ) → ℕ → Option (List ℕ) → Option (List ℕ) → Type 0
IsResumeAnswer read status old new = status ≢ 6 → IfSome read (λ input. ResumeEnds (front_text input) (lines_after input) status old new)

-- ---- the command `restore`

-- an input that does not begin as a snapshot does is one whose first line is invalid
abbrev pub no_snapshot : BeginFault
no_snapshot = InvalidSnapshot 1 Version

-- what the command `restore` writes for an input: a snapshot is answered as by `resume`, and any other input is refused
abbrev pub IsRestoreAnswer : Option (List ℕ) → ℕ → Option (List ℕ) → Option (List ℕ) → Type 0
IsRestoreAnswer read status old new =
    status ≢ 6 → IfSome read (λ input. MatchBool (is_snapshot_head input) (ResumeEnds (front_text input) (lines_after input) status old new) (RefusesToBegin no_snapshot status old new))

-- ---- the command `snapshot`

-- the lines are performed, no snapshot is written for this reason, and this line is written
abbrev pub EndsUnsaved : List ℕ → List ℕ → SnapshotEnd → List ℕ → Option (List ℕ) → Option (List ℕ) → Type 0
EndsUnsaved text lines end fault_line old new = (mid : Option (List ℕ)) × IsSnapshotAfter text lines None None old mid end × Appends mid new fault_line

-- the snapshot after the lines is written; or the plant does not rest then; or memory ran out; or the service does not begin
abbrev pub SnapshotEnds : List ℕ → List ℕ → ℕ → Option (List ℕ) → Option (List ℕ) → Type 0
SnapshotEnds text lines status old new =
    ((status ≡ 0) × IsSnapshotAfter text lines None None old new saving.Saved)
    ⊎ (((status ≡ 3) × ((why : RestFault) × ((operator : Option (List ℕ)) × EndsUnsaved text lines (saving.Unfinished why operator) state_line old new)))
    ⊎ (((status ≡ 5) × EndsUnsaved text lines saving.NoMemory memory_line old new)
    ⊎ ((fault : BeginFault) × IsBeginFault text fault × (status ≡ begin_status fault) × Appends old new (begin_line fault))))

-- what the command `snapshot` writes for an input; status 6 is for what could not be read or written
abbrev pub IsSnapshotAnswer : Option (List ℕ) → ℕ → Option (List ℕ) → Option (List ℕ) → Type 0
IsSnapshotAnswer read status old new = status ≢ 6 → IfSome read (λ input. SnapshotEnds (front_text input) (lines_after input) status old new)
