-- What the program has written, and with which status it ends, where no write has failed (implementation-specific).
use Rattle.std.specs.Prelude.{◌≡◌, ◌≢◌, ◌⊎◌, ⊤, ℕ, List, [], ◌∷◌, ◌++◌, Bool, true, false, Option, IfSome, codes}
use Rattle.std.specs.Io.KnownBytes.{Appends}
use Rattle.std.specs.String.{string_bytes}
use Rattle.command_line.specs.declared.asked.WordsFault.{WordsFault}
use Rattle.command_line.specs.declared.asked.WordsFault.TheVariants as faults
use Rattle.command_line.specs.Order.{Order, serve, threads}
use Rattle.command_line.specs.CommandLine.{NamesOrder, AsksHelp, AreWrong}
use Rattle.plant_script.specs.declared.progress.Progress.{Progress}
use Rattle.plant_script.specs.declared.progress.Progress.TheVariants.{Ended, Threads}
use Rattle.plant_script.specs.One.{is_readable}
use Rattle.plant_script.specs.Run.{memory_line, io_line}
use Rattle.plant_script.specs.OnThreads.{IsThreadedRunOf}
use Rattle.plant_script.specs.Statuses.{status_code}
use Rattle.plant_script.specs.Task.{IsWritten}
use Rattle.plant_script.specs.Words.{AnswersWith}

-- ---- an order

-- memory ran out: its line is written alone, or after what a run, which writes as it goes, had output until then
abbrev pub RunsOut : Order → Option (List ℕ) → (List ℕ → Type 0) → Type 0
RunsOut order read wrote = (before : List ℕ) × wrote (before ++ memory_line)
    × ((before ≡ []) ⊎ IfSome read (λ input. AnswersWith order input 5 (before ++ memory_line)))

-- an answer to what is read
abbrev pub AnswersRead : Order → Option (List ℕ) → ℕ → (List ℕ → Type 0) → Type 0
AnswersRead order read status wrote = IfSome read (λ input. (text : List ℕ) × AnswersWith order input status text × wrote text)

-- with 5 memory ran out, and with any other status what is written answers what is read
abbrev pub AnswersOrder : Order → Option (List ℕ) → ℕ → (List ℕ → Type 0) → Type 0
AnswersOrder order read status wrote =
    ((status ≡ 5) × RunsOut order read wrote) ⊎ ((status ≢ 5) × (status ≢ 6) × AnswersRead order read status wrote)

-- The input is lacking: a read failed, or the input is too long or not UTF-8. Of the plant file that `serve` reads it is not said why.
abbrev pub LacksInput : Order → Option (List ℕ) → Bool → Type 0
LacksInput serve read failed = ⊤
LacksInput order read failed = (failed ≡ true) ⊎ IfSome read (λ input. is_readable input ≡ false)

-- an order has ended: with 6 the input is lacking
abbrev pub EndsOrder : Order → Option (List ℕ) → Bool → ℕ → (List ℕ → Type 0) → Type 0
EndsOrder order read failed status wrote =
    ((status ≡ 6) × LacksInput order read failed × wrote io_line) ⊎ AnswersOrder order read status wrote

-- an order has ended; or it is `threads`, nothing is written, and what the run of these lines results in is the answer
abbrev pub ReachesOrder : Order → Option (List ℕ) → Progress → Option (List ℕ) → Option (List ℕ) → Type 0
ReachesOrder order read (Ended status failed) old new = EndsOrder order read failed (status_code status) (λ text. Appends old new text)
ReachesOrder order read (Threads plant lines) old new = (new ≡ old) × (order ≡ threads)
    × IfSome read (λ input. (status : ℕ) (text : List ℕ) → IsThreadedRunOf plant lines.items status text → AnswersWith order input status text)

-- ---- what is left to do

-- what is still to be done is done: nothing, or the run on threads
abbrev pub Completes : Progress → ℕ → Option (List ℕ) → Option (List ℕ) → Type 0
Completes (Ended ended failed) status old new = (status ≡ status_code ended) × (new ≡ old)
Completes (Threads plant lines) status old new = IsWritten (IsThreadedRunOf plant lines.items) status (λ text. Appends old new text)

-- what has ended is left as it is, with its status, 6 included
abbrev pub IsLeftEnded : Progress → ℕ → Option (List ℕ) → Option (List ℕ) → Type 0
IsLeftEnded (Ended ended failed) status old new = (status ≡ status_code ended) × (new ≡ old)
IsLeftEnded (Threads plant lines) status old new = ⊤

-- ---- words that give no order

-- wrong words are reported as such, with status 2, help with 0, and out of memory with 5
abbrev pub AnswersFault : WordsFault → ℕ → (List ℕ → Type 0) → Type 0
AnswersFault (faults.Help text) status wrote = (status ≡ 0) × wrote (string_bytes text)
AnswersFault faults.Wrong status wrote = (status ≡ 2) × wrote (codes "fault: words" ++ 10 ∷ [])
AnswersFault faults.NoMemory status wrote = (status ≡ 5) × wrote memory_line

-- ---- words

-- under words that name an order, an answer to what is read
abbrev pub AnswersWhatIsRead : List (List ℕ) → Option (List ℕ) → ℕ → (List ℕ → Type 0) → Type 0
AnswersWhatIsRead words read status wrote = (order : Order) → NamesOrder words order → status ≢ 5 → AnswersRead order read status wrote

-- under wrong words, with status 2, that they are a fault
abbrev pub TellsWrong : List (List ℕ) → ℕ → (List ℕ → Type 0) → Type 0
TellsWrong words status wrote = AreWrong words → status ≢ 5 → (status ≡ 2) × wrote (codes "fault: words" ++ 10 ∷ [])

-- under words that ask for help, with status 0, some text
abbrev pub TellsHelp : List (List ℕ) → ℕ → (List ℕ → Type 0) → Type 0
TellsHelp words status wrote = AsksHelp words → status ≢ 5 → (text : List ℕ) × (status ≡ 0) × wrote text

-- out of memory: its line is written alone; or after what the run of an order had output until then
abbrev pub TellsMemory : List (List ℕ) → Option (List ℕ) → (List ℕ → Type 0) → Type 0
TellsMemory words read wrote = (before : List ℕ) × wrote (before ++ memory_line) × ((before ≡ [])
    ⊎ ((order : Order) × NamesOrder words order × IfSome read (λ input. AnswersWith order input 5 (before ++ memory_line))))

-- what is written answers the words and what is read; out of memory is reported as such, and nothing else is
pub record AnswersWords (words : List (List ℕ)) (read : Option (List ℕ)) (status : ℕ) (wrote : List ℕ → Type 0) : Type 0 where
  pub served : AnswersWhatIsRead words read status wrote
  pub refused : TellsWrong words status wrote
  pub helped : TellsHelp words status wrote
  pub memory : status ≡ 5 → TellsMemory words read wrote

-- the input of an order is lacking, and its line is written
abbrev pub TellsUnread : List (List ℕ) → Option (List ℕ) → Bool → ℕ → (List ℕ → Type 0) → Type 0
TellsUnread words read failed status wrote =
    (status ≡ 6) × wrote io_line × ((order : Order) × NamesOrder words order × LacksInput order read failed)

-- The program has ended: status 6 is for an input that is lacking, and for nothing else. Or the words are `threads`, nothing is
-- written, and the words are answered once it is written what the run of these lines results in.
abbrev pub ReachesWords : List (List ℕ) → Option (List ℕ) → Progress → Option (List ℕ) → Option (List ℕ) → Type 0
ReachesWords words read (Ended status failed) old new =
    TellsUnread words read failed (status_code status) (λ text. Appends old new text)
    ⊎ ((status_code status ≢ 6) × AnswersWords words read (status_code status) (λ text. Appends old new text))
ReachesWords words read (Threads plant lines) old new = (new ≡ old) × NamesOrder words threads
    × ((status : ℕ) (later : Option (List ℕ)) → IsWritten (IsThreadedRunOf plant lines.items) status (λ text. Appends old later text)
    → (status ≢ 6) × AnswersWords words read status (λ text. Appends old later text))
