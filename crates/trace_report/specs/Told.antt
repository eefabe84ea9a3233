-- What is written of a step (implementation-specific; for inner functions).
use Rattle.std.specs.Prelude.{ℕ, List, ◌++◌, Option, Bool, true, false}
use Rattle.std.specs.Io.KnownBytes.{Appends}
use Rattle.trace_report.specs.declared.decision.Decision.{Decision}
use Rattle.trace_report.specs.Quotes.{quote_after}
use Rattle.trace_report.specs.Remarks.{HasNoCheckLine, AreWords, no_words_line}
use Rattle.trace_report.specs.Trace.{IsDecisionText}

-- words are written
abbrev pub HasWorded : Option (List ℕ) → Option (List ℕ) → Type 0
HasWorded old new = (words : List ℕ) × AreWords words × Appends old new words

-- the line of this number is quoted, unless it was quoted before; that is not the line of a check
abbrev pub HasQuoted : List ℕ → ℕ → ℕ → Option (List ℕ) → Option (List ℕ) → Type 0
HasQuoted script last number old new =
    HasNoCheckLine (quote_after script last number) × Appends old new (quote_after script last number)

-- a decision's text is written
abbrev pub HasToldDecision : Option Decision → Option (List ℕ) → Option (List ℕ) → Type 0
HasToldDecision decision old new = (line : List ℕ) × IsDecisionText decision line × Appends old new line

-- a decision's text is written, and words after it; or in its place the line that says that an allocation failed for it
abbrev pub HasToldStep : Option Decision → Bool → Option (List ℕ) → Option (List ℕ) → Type 0
HasToldStep decision true old new =
    (line words : List ℕ) × IsDecisionText decision line × AreWords words × Appends old new (line ++ words)
HasToldStep decision false old new =
    (line : List ℕ) × IsDecisionText decision line × Appends old new (line ++ no_words_line)
