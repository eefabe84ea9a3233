-- What was done of a script.
use Rattle.std.specs.Prelude.{◌≡◌, ℕ, List, [], take, slice_get, Option, Some, None, IsSome}
use Rattle.plant.specs.declared.plant.PlantFields.{PlantFields}
use Rattle.operator_model.specs.Replay.{BookView, actions_of}
use Rattle.run_model.specs.declared.step.Out.{Out}
use Rattle.run_model.specs.IsStateAfter.{CoreView, IsStateAfter}
use Rattle.plant_core.specs.live.Faults.{step_fault}
use Rattle.line_service.specs.declared.script.script.LineStep.{LineStep}
use Rattle.line_service.specs.script.Script.{steps_without_numbers}
use Rattle.line_service.specs.script.Text.{actions_text}
use Rattle.pcap_capture.specs.Capture.{CaptureView, CapturesRun}

-- the steps of these lines are done, and what is said of their outputs is written
pub record AreDone (plant : PlantFields) (lines : List LineStep) (say : List Out → List ℕ) (core : CoreView) (text : List ℕ) : Type 0 where
  pub outs : List Out
  pub reached : IsStateAfter plant (steps_without_numbers lines) outs core
  pub text_is : text ≡ say outs

-- no line is refused where no step is left; else the one whose step the core refuses, reported by its number
abbrev pub IsRefused : CoreView → Option LineStep → Option ℕ → Type 0
IsRefused core None refused = refused ≡ None
IsRefused core (Some line) refused = (refused ≡ Some line.number) × IsSome (step_fault core line.step)

-- so many of the lines' steps are done, and no more
pub record HasRun (plant : PlantFields) (lines : List LineStep) (say : List Out → List ℕ) (refused : Option ℕ) (core : CoreView) (text : List ℕ) : Type 0 where
  pub at : ℕ
  pub done : AreDone plant (take at lines) say core text
  pub ends : IsRefused core (slice_get lines at) refused

-- the text of all that an operator did, if there is one
abbrev pub book_text : Option BookView → List ℕ
book_text None = []
book_text (Some book) = actions_text (actions_of book.history)

-- ---- a capture

-- the steps of these lines are done, and the capture is theirs
pub record AreCaptured (plant : PlantFields) (lines : List LineStep) (core : CoreView) (captured : CaptureView) : Type 0 where
  pub outs : List Out
  pub reached : IsStateAfter plant (steps_without_numbers lines) outs core
  pub of_run : CapturesRun plant (steps_without_numbers lines) outs captured

-- so many of the lines' steps are done, and no more
pub record HasCaptured (plant : PlantFields) (lines : List LineStep) (refused : Option ℕ) (core : CoreView) (captured : CaptureView) : Type 0 where
  pub at : ℕ
  pub done : AreCaptured plant (take at lines) core captured
  pub ends : IsRefused core (slice_get lines at) refused

-- the status of a run whose line of this number is refused, or none
abbrev pub IsStatusOf : Option ℕ → ℕ → Type 0
IsStatusOf None status = status ≡ 0
IsStatusOf (Some number) status = status ≡ 4
