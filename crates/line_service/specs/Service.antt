-- A plant in service: lines of a script are answered one after the other, and an invalid line ends nothing (implementation-specific).
use Rattle.run_model.specs.Starts.{Start}
use Rattle.std.specs.Prelude.{◌≡◌, ◌<◌, ◌⊎◌, ℕ, ◌+◌, List, [], ◌∷◌, ◌++◌, nat_le, take, length, slice_get, Option, Some, None, IsSome, Ok, Err, ⊤, if◌then◌else◌, codes}
use Rattle.std.specs.Fmt.{decimal}
use Rattle.std.specs.Io.KnownBytes.{Appends}
use Rattle.std.specs.List.{flat_map}
use Rattle.plant.specs.declared.plant.PlantFields.{PlantFields}
use Rattle.run_model.specs.declared.step.Step.{Step}
use Rattle.run_model.specs.declared.step.Out.{Out}
use Rattle.run_model.specs.IsStateAfter.{CoreView}
use Rattle.run_model.specs.IsTraceOf.{IsTraceFrom}
use Rattle.run_model.specs.Ordered.{OrderedFrom}
use Rattle.plant_core.specs.live.Faults.{step_fault}
use Rattle.plant_core.specs.live.After.{IsAfterFrom}
use Rattle.line_service.specs.declared.script.fields.FieldError.TheVariants.{TooLong}
use Rattle.line_service.specs.declared.script.script.LineStep.{LineStep}
use Rattle.line_service.specs.script.Fields.{FieldResult}
use Rattle.line_service.specs.script.Lines.{lines_of}
use Rattle.line_service.specs.script.Script.{line_steps, steps_without_numbers}
use Rattle.line_service.specs.script.Text.{outs_text}
use Rattle.line_service.specs.declared.line_outcome.LineOutcome.{LineOutcome}
use Rattle.line_service.specs.declared.line_outcome.LineOutcome.TheVariants.{Done, AtFault, NoMemory}

-- ---- what a line says

-- the steps that a line says, or that it is invalid, as a line of more than 4,096 bytes is
abbrev pub steps_said : PlantFields → ℕ → List ℕ → FieldResult (List LineStep)
steps_said plant number line = if nat_le (length line) 4096 then line_steps plant number line else Err TooLong

-- ---- what is answered to a line

-- the steps that were done, what they output, and how the line ended
pub record LineRun : Type 0 where
  pub done : List Step
  pub told : List Out
  pub end : LineOutcome

-- the last line of an answer, by how the line ended: none where its steps are done, else `fault: line` with its number, or `fault: memory`
abbrev pub end_text : ℕ → LineOutcome → List ℕ
end_text number Done = []
end_text number AtFault = codes "fault: line " ++ (decimal number ++ 10 ∷ [])
end_text number NoMemory = codes "fault: memory" ++ 10 ∷ []

-- all that was output, and after it the line's number, where it is invalid
abbrev pub answer_text : PlantFields → ℕ → LineRun → List ℕ
answer_text plant number answered = outs_text plant answered.told ++ end_text number answered.end

-- All steps are done; or the next one is refused; or it is not refused, and an allocation for it failed (implementation-specific).
abbrev pub IsEndAt : CoreView → Option LineStep → LineOutcome → Type 0
IsEndAt live None Done = ⊤
IsEndAt live None AtFault = ⊥
IsEndAt live None NoMemory = ⊥
IsEndAt live (Some line) Done = ⊥
IsEndAt live (Some line) AtFault = IsSome (step_fault live line.step)
IsEndAt live (Some line) NoMemory = step_fault live line.step ≡ None

-- no step of the line is done and nothing is output, and the line ends so
pub record IsNotDone (end : LineOutcome) (answered : LineRun) : Type 0 where
  pub none_done : answered.done ≡ []
  pub none_told : answered.told ≡ []
  pub end_is : answered.end ≡ end

-- an allocation failed while the line was parsed, before any of its steps
abbrev pub IsNotParsed : LineRun → Type 0
IsNotParsed answered = IsNotDone NoMemory answered

-- the line says no step
abbrev pub IsInvalid : LineRun → Type 0
IsInvalid answered = IsNotDone AtFault answered

-- the line's steps are done in order, up to the end or to the first that is not done
pub record StepsAreDone (steps : List LineStep) (live : CoreView) (answered : LineRun) : Type 0 where
  pub at : ℕ
  pub done_are : answered.done ≡ steps_without_numbers (take at steps)
  pub ends : IsEndAt live (slice_get steps at) answered.end

-- a line that says steps has run, one that says none is invalid, and of either the parsing may have failed for lack of memory
abbrev pub EndsAs : FieldResult (List LineStep) → CoreView → LineRun → Type 0
EndsAs (Ok steps) live answered = IsNotParsed answered ⊎ StepsAreDone steps live answered
EndsAs (Err fault) live answered = IsNotParsed answered ⊎ IsInvalid answered

-- The line is answered so, after these steps and outputs, and this is the core after it. A line that is too long is invalid,
-- and no memory is needed to find that.
pub record IsAnswer (plant : PlantFields) (start : Start) (before : List Step) (shown : List Out) (number : ℕ) (line : List ℕ) (live : CoreView) (answered : LineRun) : Type 0 where
  pub after : IsAfterFrom plant start (before ++ answered.done) (shown ++ answered.told) live
  pub ends : EndsAs (steps_said plant number line) live answered
  pub too_long : 4096 < length line → IsInvalid answered

-- ---- the whole service

-- each line is answered, in order, by its number
abbrev pub AreAnswered : PlantFields → Start → List Step → List Out → ℕ → List (List ℕ) → List LineRun → Type 0
AreAnswered plant start before shown number [] [] = ⊤
AreAnswered plant start before shown number [] (answered ∷ more) = ⊥
AreAnswered plant start before shown number (line ∷ lines) [] = ⊥
AreAnswered plant start before shown number (line ∷ lines) (answered ∷ more) =
    (live : CoreView) × IsAnswer plant start before shown number line live answered
    × AreAnswered plant start (before ++ answered.done) (shown ++ answered.told) (number + 1) lines more

-- all answers, each after the one before it
abbrev pub service_text : PlantFields → ℕ → List LineRun → List ℕ
service_text plant number [] = []
service_text plant number (answered ∷ more) = answer_text plant number answered ++ service_text plant (number + 1) more

-- the steps that were done, and what they output
abbrev pub all_done : List LineRun → List Step
all_done answers = flat_map (λ answered. answered.done) answers

-- what the steps of all lines output, in order
abbrev pub all_told : List LineRun → List Out
all_told answers = flat_map (λ answered. answered.told) answers

-- after these steps and outputs, all lines of the input are answered, their answers are written, and this is the core then
pub record IsServiceOf (plant : PlantFields) (start : Start) (before : List Step) (shown : List Out) (input : List ℕ) (live : CoreView) (old new : Option (List ℕ)) : Type 0 where
  pub answers : List LineRun
  pub answered : AreAnswered plant start before shown 1 (lines_of input) answers
  pub after : IsAfterFrom plant start (before ++ all_done answers) (shown ++ all_told answers) live
  pub written : Appends old new (service_text plant 1 answers)

-- ---- the law

-- what a service has output is shown to each operator as its own machine run alone has it, and in order: `IsTraceOf` and `Ordered`
abbrev pub ServiceIsShown : Type 0
ServiceIsShown = (plant : PlantFields) (start : Start) (input : List ℕ) (live : CoreView) (old new : Option (List ℕ)) (service : IsServiceOf plant start [] [] input live old new)
    → IsTraceFrom plant start (all_done service.answers) (all_told service.answers) × OrderedFrom plant start (all_done service.answers) (all_told service.answers)
