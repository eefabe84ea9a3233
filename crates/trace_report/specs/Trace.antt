-- What a trace of a script says: for each step that is done, the check that decided what it answered, among remarks
-- (implementation-specific).
use Rattle.std.specs.Prelude.{◌≡◌, ◌⊎◌, ℕ, ◌-◌, ◌≤◌, List, [], ◌∷◌, ◌++◌, take, max, slice_get, Option, Some, None, ⊤, codes}
use Rattle.std.specs.Fmt.{decimal}
use Rattle.std.specs.Io.KnownBytes.{Appends}
use Rattle.plant.specs.declared.plant.PlantFields.{PlantFields}
use Rattle.trace_report.specs.table.Table.{table}
use Rattle.trace_report.specs.table.Messages.{message_table}
use Rattle.run_model.specs.declared.step.Step.{Step}
use Rattle.run_model.specs.declared.step.Out.{Out}
use Rattle.run_model.specs.IsStateAfter.{CoreView, IsStateAfter}
use Rattle.line_service.specs.declared.script.script.LineStep.{LineStep}
use Rattle.line_service.specs.script.Script.{steps_without_numbers}
use Rattle.line_service.specs.declared.steps_end.StepsEnd.{StepsEnd}
use Rattle.line_service.specs.declared.steps_end.StepsEnd.TheVariants.{NoMemory}
use Rattle.line_service.specs.Steps.{IsStepsEndAt}
use Rattle.trace_report.specs.declared.decision.Decision.{Decision}
use Rattle.trace_report.specs.declared.decision.Decision.TheVariants as decisions
use Rattle.trace_report.specs.Decision.{IsDecision}
use Rattle.trace_report.specs.Names.{message_check_name, check_name}
use Rattle.trace_report.specs.Quotes.{quote_after}
use Rattle.trace_report.specs.Remarks.{HasNoCheckLine, AreWords, no_words_line}

-- ---- what is decided

-- this decides what the step answers after these steps, which lead to some core
abbrev pub IsDecisionAfter : PlantFields → List Step → Step → Option Decision → Type 0
IsDecisionAfter plant before step decision = (core : CoreView) × (told : List Out) × IsStateAfter plant before told core × IsDecision core step decision

-- each step has its decision, in a core that the steps before it lead to
abbrev pub AreDecided : PlantFields → List Step → List Step → List (Option Decision) → Type 0
AreDecided plant before [] [] = ⊤
AreDecided plant before [] (decision ∷ more) = ⊥
AreDecided plant before (step ∷ steps) [] = ⊥
AreDecided plant before (step ∷ steps) (decision ∷ more) =
    IsDecisionAfter plant before step decision × AreDecided plant (before ++ step ∷ []) steps more

-- ---- what is written

-- a check, by its number in the table of docs/RULES.md and its name
abbrev pub check_line : ℕ → List ℕ → List ℕ
check_line number name = codes "  check " ++ (decimal number ++ (codes ", " ++ (name ++ 10 ∷ [])))

-- the number of a check of a message is its place in their table; those of a request are numbered after them
abbrev pub IsCheckNumber : Decision → ℕ → Type 0
IsCheckNumber (decisions.Message check) number = slice_get message_table number ≡ Some check
IsCheckNumber (decisions.Request check) number = (5 ≤ number) × (slice_get table (number - 5) ≡ Some check)

-- no text where no check decides, else the line of the check
abbrev pub IsDecisionText : Option Decision → List ℕ → Type 0
IsDecisionText None text = text ≡ []
IsDecisionText (Some (decisions.Message check)) text =
    (number : ℕ) × (slice_get message_table number ≡ Some check) × (text ≡ check_line number (message_check_name check))
IsDecisionText (Some (decisions.Request check)) text =
    (number : ℕ) × (5 ≤ number) × (slice_get table (number - 5) ≡ Some check) × (text ≡ check_line number (check_name check))

-- the texts of these decisions in order, with remarks before, between and after them, none of which has a check's line
abbrev pub IsTraceText : List (Option Decision) → List ℕ → Type 0
IsTraceText [] text = HasNoCheckLine text
IsTraceText (decision ∷ more) text =
    (remark line rest : List ℕ) × (text ≡ remark ++ (line ++ rest)) × HasNoCheckLine remark × IsDecisionText decision line × IsTraceText more rest

-- ---- what is quoted

-- the greatest number of the lines that are quoted: `last`, or that of one of these steps
abbrev pub last_quoted : ℕ → List LineStep → ℕ
last_quoted last [] = last
last_quoted last (line ∷ lines) = last_quoted (max last line.number) lines

-- the quote before the next step, if there is one
abbrev pub next_quote : List ℕ → ℕ → Option LineStep → List ℕ
next_quote script last None = []
next_quote script last (Some line) = quote_after script last line.number

-- What is written of steps, one after the other: before the first step of each line the line's quote, then the step's decision,
-- then words. After them is the quote before the next step.
abbrev pub IsReportText : List ℕ → ℕ → List LineStep → List (Option Decision) → Option LineStep → List ℕ → Type 0
IsReportText script last [] [] next text = text ≡ next_quote script last next
IsReportText script last [] (decision ∷ more) next text = ⊥
IsReportText script last (line ∷ lines) [] next text = ⊥
IsReportText script last (line ∷ lines) (decision ∷ more) next text =
    (told words rest : List ℕ) × (text ≡ quote_after script last line.number ++ (told ++ (words ++ rest)))
    × IsDecisionText decision told × AreWords words × IsReportText script (max last line.number) lines more next rest

-- ---- the whole trace

-- an allocation failed for the words of the last step that is done: in their place the text has the line that says so, and ends
pub record HasNoWords (decisions : List (Option Decision)) (text : List ℕ) (end : StepsEnd) : Type 0 where
  pub end_is : end ≡ NoMemory
  pub others : List (Option Decision)
  pub last : Option Decision
  pub decisions_are : decisions ≡ others ++ last ∷ []
  pub before : List ℕ
  pub line : List ℕ
  pub told : IsDecisionText last line
  pub text_is : text ≡ before ++ (line ++ no_words_line)

-- the trace ends as its steps do, or with the words of the last one
abbrev pub IsTraceEndAt : CoreView → Option LineStep → List (Option Decision) → List ℕ → StepsEnd → Type 0
IsTraceEndAt core next decisions text end = IsStepsEndAt core next end ⊎ HasNoWords decisions text end

-- So many of these steps are done on the plant as it is opened, and it ended so. Their lines are quoted from the script, and what
-- decided each is written, in order. The line of a step that is not done is quoted too, unless memory ran out for the words before it.
pub record HasTraced (plant : PlantFields) (script : List ℕ) (steps : List LineStep) (core : CoreView) (end : StepsEnd) (old new : Option (List ℕ)) : Type 0 where
  pub at : ℕ
  pub told : List Out
  pub decisions : List (Option Decision)
  pub text : List ℕ
  pub reached : IsStateAfter plant (steps_without_numbers (take at steps)) told core
  pub ends : IsTraceEndAt core (slice_get steps at) decisions text end
  pub decided : AreDecided plant [] (steps_without_numbers (take at steps)) decisions
  pub is_text : IsTraceText decisions text
  pub next : Option LineStep
  pub next_is : (next ≡ slice_get steps at) ⊎ (HasNoWords decisions text end × (next ≡ None))
  pub reported : IsReportText script 0 (take at steps) decisions next text
  pub written : Appends old new text
