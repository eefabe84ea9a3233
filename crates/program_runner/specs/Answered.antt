-- What a writer gets for a command without an option (implementation-specific).
use Rattle.std.specs.Prelude.{◌≡◌, ◌≢◌, ℕ, Bool, true, false, List, [], ◌∷◌, ◌++◌, Option, IfSome, MatchBool, codes}
use Rattle.std.specs.Io.KnownBytes.{Appends}
use Rattle.command_line.specs.Order.{Asked, order, service, run, bare_texts}
use Rattle.command_line.specs.declared.asked.ServiceWord.TheVariants.{Resume, Restore, Snapshot}
use Rattle.command_line.specs.declared.asked.LineFault.{LineFault}
use Rattle.command_line.specs.declared.asked.LineFault.TheVariants as line
use Rattle.plant_script.specs.Reaching.{AnswersWords}
use Rattle.plant_script.specs.Run.{memory_line}
use Rattle.program_runner.specs.Version.{version_text}
use Rattle.state_service.specs.resumed.Beginning.{is_snapshot_head}
use Rattle.program_runner.specs.Resume.{IsResumeAnswer, IsRestoreAnswer, IsSnapshotAnswer, WritesHelp}

-- the line of an invalid command line
abbrev pub words_line : List ℕ
words_line = codes "fault: words" ++ 10 ∷ []

-- it gets what `run_program` writes for the words and for what is read; status 6 is for what could not be read or written
pub record IsProgramAnswer (words : List (List ℕ)) (read : Option (List ℕ)) (status : ℕ) (old new : Option (List ℕ)) : Type 0 where
  pub answered : status ≢ 6 → AnswersWords words read status (λ text. Appends old new text)

-- the answer of a service, else that of `run_program` to these words
abbrev pub IsWordAnswer : Asked → List (List ℕ) → Option (List ℕ) → ℕ → Option (List ℕ) → Option (List ℕ) → Type 0
IsWordAnswer (order o) words read status old new = IsProgramAnswer words read status old new
IsWordAnswer (service Resume) words read status old new = IsResumeAnswer read status old new
IsWordAnswer (service Restore) words read status old new = IsRestoreAnswer read status old new
IsWordAnswer (service Snapshot) words read status old new = IsSnapshotAnswer read status old new

-- under `run`, an input that begins as a snapshot does is answered as under `resume`, and any other one by `run_program`
abbrev pub IsRunAnswer : List (List ℕ) → Option (List ℕ) → ℕ → Option (List ℕ) → Option (List ℕ) → Type 0
IsRunAnswer words read status old new =
    IfSome read (λ input. MatchBool (is_snapshot_head input) (IsResumeAnswer read status old new) (IsProgramAnswer words read status old new))

-- the command is `run`
abbrev pub is_run : Asked → Bool
is_run (order run) = true
is_run _ = false

-- the answer to a command without an option: of `run` also to a snapshot, of any other to its words
abbrev pub IsCommandAnswer : Asked → List (List ℕ) → Option (List ℕ) → ℕ → Option (List ℕ) → Option (List ℕ) → Type 0
IsCommandAnswer asked words read status old new =
    MatchBool (is_run asked) (IsRunAnswer words read status old new) (IsWordAnswer asked words read status old new)

-- The answer to a command without an option: that of `run_program` to the words of the command, or that of a service.
abbrev pub IsAskedAnswer : Asked → Option (List ℕ) → ℕ → Option (List ℕ) → Option (List ℕ) → Type 0
IsAskedAnswer asked read status old new = IsCommandAnswer asked (bare_texts asked) read status old new

-- ---- no command

-- what is written for a command line that has no command to perform; of an object that stands for the line nothing is said
abbrev pub WritesLineFault : LineFault → Bool → ℕ → Option (List ℕ) → Option (List ℕ) → Type 0
WritesLineFault (line.Help text) json status old new = WritesHelp status old new
WritesLineFault line.Version json status old new = (status ≡ 0) × Appends old new version_text
WritesLineFault line.Wrong json status old new = json ≡ false → (status ≡ 2) × Appends old new words_line
WritesLineFault (line.Options why) json status old new = (status ≡ 2) × Appends old new words_line
WritesLineFault line.NoMemory json status old new = (status ≡ 5) × Appends old new memory_line
