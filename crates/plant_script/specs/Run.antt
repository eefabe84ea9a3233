-- A run of a script's steps, and what `run`, `history` and `capture` write of it (implementation-specific).
use Rattle.std.specs.Prelude.{◌≡◌, ◌⊎◌, ℕ, List, [], ◌∷◌, ◌++◌, take, slice_get, Option, Some, None, IsSome, codes}
use Rattle.std.specs.Fmt.{decimal}
use Rattle.plant.specs.declared.plant.PlantFields.{PlantFields}
use Rattle.run_model.specs.declared.step.Step.{Step}
use Rattle.run_model.specs.declared.step.Out.{Out}
use Rattle.run_model.specs.IsStateAfter.{CoreView, IsStateAfter}
use Rattle.plant_core.specs.live.Faults.{step_fault}
use Rattle.line_service.specs.declared.script.script.LineStep.{LineStep}
use Rattle.line_service.specs.script.Script.{steps_without_numbers}
use Rattle.pcap_capture.specs.Capture.{IsCaptureOf}

-- the run ends after the last step; or before the first one that is refused
abbrev pub IsEndStatus : CoreView → Option LineStep → ℕ → Type 0
IsEndStatus core None status = status ≡ 0
IsEndStatus core (Some line) status = (status ≡ 4) × IsSome (step_fault core line.step)

-- the line of the step that is refused, by its number
abbrev pub last_line : Option LineStep → List ℕ
last_line None = []
last_line (Some line) = codes "fault: line " ++ (decimal line.number ++ 10 ∷ [])

-- what is written if memory runs out
abbrev pub memory_line : List ℕ
memory_line = codes "fault: memory" ++ 10 ∷ []

-- what is written if the input cannot be read
abbrev pub io_line : List ℕ
io_line = codes "fault: io" ++ 10 ∷ []

-- An allocation for the next step failed: there is a next step, and the core does not refuse it. So no refusal is reported as out of
-- memory, nor is the end of the run.
abbrev pub IsOutOfMemory : CoreView → Option LineStep → Type 0
IsOutOfMemory core None = ⊥
IsOutOfMemory core (Some line) = step_fault core line.step ≡ None

-- The status of a run and its last line: the run ends, and the line of the refused step is written, if there is one; or the next
-- step is out of memory, with status 5.
abbrev pub EndsBy : CoreView → Option LineStep → ℕ → List ℕ → Type 0
EndsBy core next status last =
    (IsEndStatus core next status × (last ≡ last_line next)) ⊎ (IsOutOfMemory core next × (status ≡ 5) × (last ≡ memory_line))

-- so many steps are done, one after the other, on a core of the plant as it is opened: the run shows to each operator its own
-- machine run alone, with all outputs in order (`IsStateAfter`). What is said of them is written, and after it the last line.
pub record IsScriptRun (plant : PlantFields) (lines : List LineStep) (say : List Step → List Out → List ℕ) (status : ℕ) (text : List ℕ) : Type 0 where
  pub at : ℕ
  pub outs : List Out
  pub core : CoreView
  pub reached : IsStateAfter plant (steps_without_numbers (take at lines)) outs core
  pub last : List ℕ
  pub ends : EndsBy core (slice_get lines at) status last
  pub text_is : text ≡ say (steps_without_numbers (take at lines)) outs ++ last

-- So many steps are done, as in `IsScriptRun`, and what is written is the capture of just these steps, each with its own outputs: whole,
-- with no line after it where a step is refused.
pub record IsCapturedRunOf (plant : PlantFields) (lines : List LineStep) (status : ℕ) (text : List ℕ) : Type 0 where
  pub at : ℕ
  pub outs : List Out
  pub core : CoreView
  pub reached : IsStateAfter plant (steps_without_numbers (take at lines)) outs core
  pub ends : IsEndStatus core (slice_get lines at) status
  pub captured : IsCaptureOf plant (steps_without_numbers (take at lines)) outs text
