-- What of a run is written, and what a run answers to an input.
use Rattle.std.specs.Prelude.{◌≡◌, ◌≢◌, ◌⊎◌, ⊤, ℕ, List, [], ◌∷◌, ◌++◌, slice_get, Option, Some, None, Result, Ok, Err, codes}
use Rattle.std.specs.Fmt.{decimal}
use Rattle.std.specs.Borrow.{Bor}
use Rattle.std.specs.Global.{Vec}
use Rattle.plant.specs.declared.operator_row.RowFields.{RowFields}
use Rattle.plant.specs.declared.plant.PlantFields.{PlantFields}
use Rattle.run_model.specs.declared.step.Step.{Step}
use Rattle.line_service.specs.declared.script.script.LineStep.{LineStep}
use Rattle.line_service.specs.script.Input.{script_text}
use Rattle.line_service.specs.script.Text.{outs_text, history_text}
use Rattle.plant_script.specs.declared.answer.Answer.{Answer}
use Rattle.command_line.specs.declared.asked.RunReport.{RunReport}
use Rattle.command_line.specs.declared.asked.RunReport.TheVariants.{Outputs, Capture, Trace, History}
use Rattle.plant_script.specs.declared.input_outcome.InputOutcome.{InputOutcome}
use Rattle.plant_script.specs.declared.input_outcome.InputOutcome.TheVariants as outcomes
use Rattle.plant_script.specs.Run.{memory_line, IsScriptRun, IsCapturedRunOf}
use Rattle.plant_script.specs.OnThreads.{IsThreadedRunOf}
use Rattle.plant_script.specs.Statuses.{status_code}
use Rattle.plant_script.specs.Traced.{IsTracedRunOf}
use Rattle.plant_script.specs.Words.{AnswersRun, AnswersCapture, AnswersTrace, AnswersHistory}

-- nothing of an operator that the plant does not have
abbrev pub history_at : Option RowFields → ℕ → List Step → List ℕ
history_at None op done = []
history_at (Some row) op done = history_text row op done

-- what the run of a script's steps results in, where this is printed of it; a trace quotes the script's text
abbrev pub RunsTo : PlantFields → RunReport ℕ → List ℕ → List LineStep → ℕ → List ℕ → Type 0
RunsTo plant Outputs script lines status text = IsScriptRun plant lines (λ done told. outs_text plant told) status text
RunsTo plant Capture script lines status text = IsCapturedRunOf plant lines status text
RunsTo plant Trace script lines status text = IsTracedRunOf plant script lines status text
RunsTo plant (History op) script lines status text =
    IsScriptRun plant lines (λ done told. history_at (slice_get plant.rows op) op done) status text

-- what a run results in is written; or memory ran out, and its line is written alone, or after what the run had output until then
abbrev pub IsWritten : (ℕ → List ℕ → Type 0) → ℕ → (List ℕ → Type 0) → Type 0
IsWritten results status wrote =
    ((text : List ℕ) × (status ≢ 5) × (status ≢ 6) × results status text × wrote text)
    ⊎ ((before : List ℕ) × (status ≡ 5) × wrote (before ++ memory_line)
    × ((before ≡ []) ⊎ results 5 (before ++ memory_line)))

-- an answer is written; or there is none, and it is written that memory ran out
abbrev pub WritesOutcome : {E : Type 0} → Result Answer E → ℕ → (List ℕ → Type 0) → Type 0
WritesOutcome (Ok answer) status wrote = (status ≡ status_code answer.status) × wrote answer.text.items
WritesOutcome (Err error) status wrote = (status ≡ 5) × wrote memory_line

-- what is answered to a plant and a script, where this is printed of their run
abbrev pub AnswersReport : RunReport (Bor (List ℕ)) → PlantFields → List ℕ → ℕ → List ℕ → Type 0
AnswersReport Outputs = AnswersRun
AnswersReport Capture = AnswersCapture
AnswersReport Trace = AnswersTrace
AnswersReport (History name) = AnswersHistory name.now

-- the text of the script in an input that was noted; empty where none was
abbrev pub noted_script : Option (Vec ℕ) → List ℕ
noted_script None = []
noted_script (Some input) = script_text input.items

-- what is done for an input, whose script has this text, is such an answer: at once, or whatever the run results in
abbrev pub Comes : InputOutcome → List ℕ → (ℕ → List ℕ → Type 0) → Type 0
Comes (outcomes.Answer answer) script answers = answers (status_code answer.status) answer.text.items
Comes (outcomes.Task task) script answers =
    (status : ℕ) (text : List ℕ) → RunsTo task.plant task.report script task.lines.items status text → answers status text
Comes (outcomes.Threads plant lines) script answers =
    (status : ℕ) (text : List ℕ) → IsThreadedRunOf plant lines.items status text → answers status text

-- it is not a run on threads that answers
abbrev pub IsNotThreaded : InputOutcome → Type 0
IsNotThreaded (outcomes.Answer answer) = ⊤
IsNotThreaded (outcomes.Task task) = ⊤
IsNotThreaded (outcomes.Threads plant lines) = ⊥

-- the status and the text of an answer: what is said, and after it the invalid line, if there is one
abbrev pub IsEnded : List ℕ → Option ℕ → Answer → Type 0
IsEnded text None answer = (status_code answer.status ≡ 0) × (answer.text.items ≡ text)
IsEnded text (Some number) answer = (status_code answer.status ≡ 4) × (answer.text.items ≡ text ++ (codes "fault: line " ++ (decimal number ++ 10 ∷ [])))

-- what `run` results in is written
abbrev pub EndsRun : PlantFields → List LineStep → ℕ → (List ℕ → Type 0) → Type 0
EndsRun plant lines status wrote = (text : List ℕ) × IsScriptRun plant lines (λ done told. outs_text plant told) status text × wrote text
