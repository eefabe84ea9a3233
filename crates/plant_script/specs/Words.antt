-- What each order answers to an input (implementation-specific).
use Rattle.std.specs.Prelude.{◌≡◌, ℕ, List, [], ◌∷◌, ◌++◌, MatchBool, slice_get, Option, Some, None, Result, Ok, Err, codes}
use Rattle.std.specs.List.{position_from}
use Rattle.toml.specs.Parse.{parse_document}
use Rattle.plant.specs.declared.operator_row.RowFields.{RowFields}
use Rattle.plant.specs.declared.plant.PlantFields.{PlantFields}
use Rattle.slice_table.specs.declared.plant_fault.PlantFault.{PlantFault}
use Rattle.slice_table.specs.ReadPlant.{text_plant}
use Rattle.line_service.specs.declared.script.script.LineStep.{LineStep}
use Rattle.command_line.specs.Order.{Order, one, check, run, threads, capture, serve, trace, history}
use Rattle.line_service.specs.script.Input.{plant_text, script_text}
use Rattle.line_service.specs.script.Script.{is_named, steps_of}
use Rattle.line_service.specs.script.Text.{outs_text, history_text}
use Rattle.plant_script.specs.One.{Answer, is_readable, answer_of}
use Rattle.plant_script.specs.Check.{answer_to_steps, answer_to_plant, check_of}
use Rattle.plant_script.specs.Run.{io_line, IsScriptRun, IsCapturedRunOf}
use Rattle.plant_script.specs.OnThreads.{IsThreadedRunOf}
use Rattle.plant_script.specs.Traced.{IsTracedRunOf}
use Rattle.plant_script.specs.Serving.{IsServed}

-- ---- answers

-- this status and this text
abbrev pub Is : Answer → ℕ → List ℕ → Type 0
Is answer status text = (status ≡ answer.status) × (text ≡ answer.text)

-- a line of the invalid script is reported alone; else what the run of its steps results in
abbrev pub AnswersSteps : (List LineStep → ℕ → List ℕ → Type 0) → Result (List LineStep) ℕ → ℕ → List ℕ → Type 0
AnswersSteps runs_to (Ok lines) status text = runs_to lines status text
AnswersSteps runs_to (Err number) status text = Is (answer_to_steps (Err number)) status text

-- all outputs of the run
abbrev pub AnswersRun : PlantFields → List ℕ → ℕ → List ℕ → Type 0
AnswersRun plant script status text =
    AnswersSteps (λ lines. IsScriptRun plant lines (λ done told. outs_text plant told)) (steps_of plant script) status text

-- all outputs of the run on threads
abbrev pub AnswersThreads : PlantFields → List ℕ → ℕ → List ℕ → Type 0
AnswersThreads plant script status text = AnswersSteps (IsThreadedRunOf plant) (steps_of plant script) status text

-- the capture of the run
abbrev pub AnswersCapture : PlantFields → List ℕ → ℕ → List ℕ → Type 0
AnswersCapture plant script status text = AnswersSteps (IsCapturedRunOf plant) (steps_of plant script) status text

-- what decided each step of the run, and what came of it, among quotes of the script
abbrev pub AnswersTrace : PlantFields → List ℕ → ℕ → List ℕ → Type 0
AnswersTrace plant script status text = AnswersSteps (IsTracedRunOf plant script) (steps_of plant script) status text

-- an operator that the plant does not have is reported alone, before the script is judged; else its own of the run's steps
abbrev pub AnswersOperator : PlantFields → List ℕ → Option ℕ → ℕ → List ℕ → Type 0
AnswersOperator plant script None status text =
    Is (record { status = 2; text = codes "fault: words" ++ 10 ∷ [] }) status text
AnswersOperator plant script (Some op) status text =
    (row : RowFields) × (slice_get plant.rows op ≡ Some row) × AnswersSteps
    (λ lines. IsScriptRun plant lines (λ done told. history_text row op done)) (steps_of plant script) status text

-- of the first operator of this name
abbrev pub AnswersHistory : List ℕ → PlantFields → List ℕ → ℕ → List ℕ → Type 0
AnswersHistory name plant script status text =
    AnswersOperator plant script (position_from (is_named name) 0 plant.rows) status text

-- an invalid plant is reported alone; else the script is judged
abbrev pub AnswersPlant : (PlantFields → List ℕ → ℕ → List ℕ → Type 0)
    → Result PlantFields PlantFault → List ℕ → ℕ → List ℕ → Type 0
AnswersPlant answers (Ok plant) script status text = answers plant script status text
AnswersPlant answers (Err fault) script status text = Is (answer_to_plant (Err fault) script) status text

-- an input that is too long or no text is reported alone; then the plant is judged
abbrev pub AnswersInput : (PlantFields → List ℕ → ℕ → List ℕ → Type 0) → List ℕ → ℕ → List ℕ → Type 0
AnswersInput answers input status text =
    MatchBool (is_readable input)
    (AnswersPlant answers (text_plant (parse_document (plant_text input))) (script_text input) status text)
    (Is (record { status = 6; text = io_line }) status text)

-- an invalid plant is reported alone; else its plant is served as long as there are lines
abbrev pub AnswersFront : Result PlantFields PlantFault → List ℕ → ℕ → List ℕ → Type 0
AnswersFront (Ok plant) script status text = IsServed plant script status text
AnswersFront (Err fault) script status text = Is (answer_to_plant (Err fault) script) status text

-- the plant file is judged first; that it is too long or not UTF-8 is no answer
abbrev pub AnswersServe : List ℕ → ℕ → List ℕ → Type 0
AnswersServe input status text = AnswersFront (text_plant (parse_document (plant_text input))) (script_text input) status text

-- what each command writes for an input, and with which status
abbrev pub AnswersWith : Order → List ℕ → ℕ → List ℕ → Type 0
AnswersWith one input status text = Is (answer_of input) status text
AnswersWith check input status text = Is (check_of input) status text
AnswersWith run input status text = AnswersInput AnswersRun input status text
AnswersWith threads input status text = AnswersInput AnswersThreads input status text
AnswersWith capture input status text = AnswersInput AnswersCapture input status text
AnswersWith serve input status text = AnswersServe input status text
AnswersWith trace input status text = AnswersInput AnswersTrace input status text
AnswersWith (history operator) input status text = AnswersInput (AnswersHistory operator) input status text
