-- A run that is reported in words, and what `trace` writes of it (implementation-specific).
use Rattle.std.specs.Prelude.{◌≡◌, ◌⊎◌, ℕ, List, [], ◌++◌, take, slice_get, Option, None}
use Rattle.plant.specs.declared.plant.PlantFields.{PlantFields}
use Rattle.run_model.specs.declared.step.Out.{Out}
use Rattle.run_model.specs.IsStateAfter.{CoreView, IsStateAfter}
use Rattle.line_service.specs.declared.script.script.LineStep.{LineStep}
use Rattle.line_service.specs.script.Script.{steps_without_numbers}
use Rattle.trace_report.specs.declared.decision.Decision.{Decision}
use Rattle.line_service.specs.declared.steps_end.StepsEnd.TheVariants.{NoMemory}
use Rattle.trace_report.specs.Trace.{AreDecided, IsTraceText, IsReportText, HasNoWords}
use Rattle.plant_script.specs.Run.{memory_line, EndsBy}

-- The status of a trace and its last line: those of its run; or an allocation failed for the words of the last step that is done,
-- and the line that says so is before the last one.
abbrev pub EndsTraceBy : CoreView → Option LineStep → List (Option Decision) → List ℕ → ℕ → List ℕ → Type 0
EndsTraceBy core next decisions told status last =
    EndsBy core next status last ⊎ (HasNoWords decisions told NoMemory × (status ≡ 5) × (last ≡ memory_line))

-- So many steps are done, as in `IsScriptRun`. For each there is what decided it, by the definitions of the checks and by the core as it
-- was before the step, and a line for it is written, one after the other. Before, between and after them are remarks: whole lines, of
-- which none begins as the line of a check. They are quotes of the script and words (`IsReportText`). Before the first step of each
-- line are its number and its text in `script`. After what decided a step are words. The line of a step that is not done is quoted too,
-- unless memory ran out for the words before it. After them is the last line.
pub record IsTracedRunOf (plant : PlantFields) (script : List ℕ) (lines : List LineStep) (status : ℕ) (text : List ℕ) : Type 0 where
  pub at : ℕ
  pub outs : List Out
  pub core : CoreView
  pub reached : IsStateAfter plant (steps_without_numbers (take at lines)) outs core
  pub decisions : List (Option Decision)
  pub decided : AreDecided plant [] (steps_without_numbers (take at lines)) decisions
  pub told : List ℕ
  pub is_text : IsTraceText decisions told
  pub next : Option LineStep
  pub next_is : (next ≡ slice_get lines at) ⊎ (HasNoWords decisions told NoMemory × (next ≡ None))
  pub reported : IsReportText script 0 (take at lines) decisions next told
  pub last : List ℕ
  pub ends : EndsTraceBy core (slice_get lines at) decisions told status last
  pub text_is : text ≡ told ++ last

-- what `trace` results in is written
abbrev pub EndsTraced : PlantFields → List ℕ → List LineStep → ℕ → (List ℕ → Type 0) → Type 0
EndsTraced plant script lines status wrote = (text : List ℕ) × IsTracedRunOf plant script lines status text × wrote text
