-- Lines that are done up to the end of the input, or until the state is to be saved (implementation-specific).
use Rattle.std.specs.Prelude.{⊤, ℕ, List, Option, Some, None}
use Rattle.std.specs.Io.KnownBytes.{Appends}
use Rattle.run_model.specs.IsStateAfter.{CoreView}
use Rattle.snapshot_format.specs.States.{states_of}
use Rattle.plant_restart.specs.Restarted.{IsRestarted}
use Rattle.line_journal.specs.Journal.{JournalContent}
use Rattle.state_service.specs.declared.durable.saving.KeptState.{KeptState}
use Rattle.state_service.specs.durable.Durable.{SaysState, IsKeptState}
use Rattle.state_service.specs.declared.period_end.DueState.{DueState}
use Rattle.state_service.specs.declared.reading.BatchEnd.{BatchEnd}
use Rattle.state_service.specs.declared.reading.BatchEnd.TheVariants as batch
use Rattle.state_service.specs.declared.period_end.PeriodEnd.{PeriodEnd}
use Rattle.state_service.specs.declared.period_end.PeriodEnd.TheVariants.{Ended, Due}
use Rattle.state_service.specs.Serving.{IsServing, IsAtLine, HasServed, LeadsHere}

-- some of the input is left, or a command is read, or all its lines are done
abbrev pub IsAfterLines : BatchEnd → List ℕ → CoreView → ℕ → List ℕ → List ℕ → List ℕ → CoreView → ℕ → Option (List ℕ) → Option (List ℕ) → Type 0
IsAfterLines batch.Open file first count input rest part live now old new = IsServing file first count input rest part live now old new
IsAfterLines (batch.Command line) file first count input rest part live now old new =
    IsAtLine line.items file first count input rest part live now old new
IsAfterLines batch.Ended file first count input rest part live now old new = HasServed file first count input live now old new

-- once the state is in the journal, and its answer is written, the service goes on from the core that is restored from the state
abbrev pub GoesOnAfterSave : DueState → List ℕ → CoreView → ℕ → List ℕ → List ℕ → List ℕ → ℕ → Option (List ℕ) → Option (List ℕ) → Type 0
GoesOnAfterSave due file first count input rest part now old new =
    (next : CoreView) (later : Option (List ℕ)) → IsRestarted due.kept.start.plant due.kept.start.saved.frame (states_of due.kept.start.saved) next
    → Appends new later due.answer.items → IsServing file first count input rest part next now old later

-- all lines of the input are done, or the state is to be saved
abbrev pub IsAfterPeriod : PeriodEnd → List ℕ → CoreView → ℕ → List ℕ → List ℕ → List ℕ → CoreView → ℕ → Option (List ℕ) → Option (List ℕ) → Type 0
IsAfterPeriod Ended file first count input rest part live now old new = HasServed file first count input live now old new
IsAfterPeriod (Due due) file first count input rest part live now old new = GoesOnAfterSave due file first count input rest part now old new

-- the period goes on, or it has ended
abbrev pub IsInPeriod : Option PeriodEnd → List ℕ → CoreView → ℕ → List ℕ → List ℕ → List ℕ → CoreView → ℕ → Option (List ℕ) → Option (List ℕ) → Type 0
IsInPeriod None file first count input rest part live now old new = IsServing file first count input rest part live now old new
IsInPeriod (Some end) file first count input rest part live now old new = IsAfterPeriod end file first count input rest part live now old new

-- a state that may be kept is that of this core, with this plant file, after so many lines
abbrev pub IsKeptOf : CoreView → List ℕ → ℕ → Option KeptState → Type 0
IsKeptOf live file count None = ⊤
IsKeptOf live file count (Some kept) = IsKeptState live file count kept.snapshot kept.start.plant kept.start.saved

-- the lines of a state that is to be saved say what was read of them, with so many lines before
abbrev pub SaysDue : ℕ → DueState → Type 0
SaysDue count due = SaysState due.kept.snapshot count due.kept.start.plant due.kept.start.saved

-- a period ended with the input, or with a state that is to be saved and whose lines say what was read of them
abbrev pub SaysAtEnd : ℕ → PeriodEnd → Type 0
SaysAtEnd count Ended = ⊤
SaysAtEnd count (Due due) = SaysDue count due

-- the same, if the period has ended
abbrev pub SaysAtEndIfAny : ℕ → Option PeriodEnd → Type 0
SaysAtEndIfAny count None = ⊤
SaysAtEndIfAny count (Some end) = SaysAtEnd count end

-- unless a state is to be saved, the journal leads to the core
abbrev pub LeadsAtEnd : PeriodEnd → Option JournalContent → CoreView → ℕ → Type 0
LeadsAtEnd Ended content live count = LeadsHere content live count
LeadsAtEnd (Due due) content live count = ⊤

-- the journal leads to the core, unless the period has ended with a state that is to be saved
abbrev pub LeadsUnlessDue : Option PeriodEnd → Option JournalContent → CoreView → ℕ → Type 0
LeadsUnlessDue None content live count = LeadsHere content live count
LeadsUnlessDue (Some end) content live count = LeadsAtEnd end content live count
