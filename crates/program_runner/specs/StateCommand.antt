-- The command `serve` with the option `--state`, and what it writes (implementation-specific).
use Rattle.std.specs.Prelude.{◌≡◌, ◌⊎◌, ℕ, List, [], ◌∷◌, ◌++◌, Option, IfSome, codes}
use Rattle.std.specs.Io.KnownBytes.{Appends}
use Rattle.std.specs.declared.io.ErrorKind.{ErrorKind}
use Rattle.std.specs.declared.io.ErrorKind.TheVariants.{OutOfMemory}
use Rattle.std.specs.IoError.{error_kind}
use Rattle.line_service.specs.script.Input.{plant_text, script_text}
use Rattle.line_journal.specs.Journal.{JournalContent}
use Rattle.journal_file.specs.declared.opening.JournalOpenFault.{JournalOpenFault}
use Rattle.journal_file.specs.declared.opening.JournalOpenFault.TheVariants as openings
use Rattle.state_service.specs.declared.durable.fault.JournalStateFault.TheVariants as states
use Rattle.state_service.specs.declared.durable.fault.LineFailure.TheVariants as lines
use Rattle.state_service.specs.declared.durable.fault.DurableFault.{DurableFault}
use Rattle.state_service.specs.declared.durable.fault.DurableFault.TheVariants as durable
use Rattle.state_service.specs.Beginning.{IsStateService}
use Rattle.state_service.specs.declared.fault.StateServiceFault.{StateServiceFault}
use Rattle.state_service.specs.declared.fault.StateServiceFault.TheVariants as service
use Rattle.plant_script.specs.Check.{fault_text}
use Rattle.plant_script.specs.Run.{memory_line}
use Rattle.program_runner.specs.declared.state_command.FaultKind.{FaultKind}
use Rattle.program_runner.specs.declared.state_command.FaultKind.TheVariants.{Plant, State, Memory, Io}

-- ---- what a fault is

-- the kind of a fault of a journal, which decides its status and its line
abbrev pub journal_kind : DurableFault → FaultKind
journal_kind durable.NoJournal = State
journal_kind (durable.State states.NoMemory) = Memory
journal_kind (durable.State fault) = State
journal_kind (durable.Line lines.NoMemory) = Memory
journal_kind (durable.Line lines.TooManyLines) = Io
journal_kind durable.Disk = Io
journal_kind durable.Full = Io

-- the kind of a read or a write that failed
abbrev pub stream_kind : ErrorKind → FaultKind
stream_kind OutOfMemory = Memory
stream_kind _ = Io

-- the kind of a fault of a service that does not begin, or ends before its input does
abbrev pub state_kind : StateServiceFault → FaultKind
state_kind service.NotText = Io
state_kind (service.InvalidPlant fault) = Plant fault
state_kind (service.Journal fault) = journal_kind fault
state_kind (service.NotRestored why) = State
state_kind (service.NotChanged why refused) = State
state_kind (service.Stream error) = stream_kind (error_kind error)
state_kind service.NoMemory = Memory

-- the kind of a fault of a folder whose journal is not opened
abbrev pub opening_kind : JournalOpenFault → FaultKind
opening_kind openings.NotAFolder = Io
opening_kind (openings.Io part error) = Io
opening_kind openings.InUse = Io
opening_kind openings.NoMemory = Memory

-- ---- what is written

-- the status of a fault, and its line; for the line of a plant file memory may run out
abbrev pub WritesFault : FaultKind → ℕ → Option (List ℕ) → Option (List ℕ) → Type 0
WritesFault (Plant fault) status old new =
    ((status ≡ 3) × Appends old new (codes "fault: plant " ++ fault_text fault)) ⊎ ((status ≡ 5) × Appends old new memory_line)
WritesFault State status old new = (status ≡ 3) × Appends old new (codes "fault: state" ++ 10 ∷ [])
WritesFault Memory status old new = (status ≡ 5) × Appends old new memory_line
WritesFault Io status old new = status ≡ 6

-- all lines of the input are answered, from the journal of these bytes on; or a fault ends the service, and its line is the last one
abbrev pub StateServiceEnds : List ℕ → Option (List ℕ) → ℕ → Option (List ℕ) → Option (List ℕ) → Type 0
StateServiceEnds bytes read status old new =
    ((status ≡ 0) × IfSome read (λ input. (content : Option JournalContent) × IsStateService bytes (plant_text input) (script_text input) content old new))
    ⊎ ((fault : StateServiceFault) × (mid : Option (List ℕ)) × WritesFault (state_kind fault) status mid new)

-- all lines are answered from the journal of the folder, or a fault ends the service; or the journal is not opened
abbrev pub StateFolderEnds : Option (List ℕ) → ℕ → Option (List ℕ) → Option (List ℕ) → Type 0
StateFolderEnds read status old new =
    ((bytes : List ℕ) × StateServiceEnds bytes read status old new) ⊎ ((fault : JournalOpenFault) × WritesFault (opening_kind fault) status old new)
