-- What of a service was done so far.
use Rattle.run_model.specs.Starts.{Start}
use Rattle.std.specs.Prelude.{◌≡◌, ◌<◌, ◌≤◌, ℕ, ◌+◌, Bool, true, false, List, ◌++◌, take, drop, length, Option}
use Rattle.std.specs.Io.KnownBytes.{Appends}
use Rattle.plant.specs.declared.plant.PlantFields.{PlantFields}
use Rattle.run_model.specs.declared.step.Step.{Step}
use Rattle.run_model.specs.declared.step.Out.{Out}
use Rattle.run_model.specs.IsStateAfter.{CoreView}
use Rattle.plant_core.specs.live.After.{IsAfterFrom}
use Rattle.line_service.specs.declared.script.script.LineStep.{LineStep}
use Rattle.line_service.specs.script.Lines.{lines_of}
use Rattle.line_service.specs.script.Script.{steps_without_numbers}
use Rattle.line_service.specs.script.Text.{outs_text}
use Rattle.line_service.specs.declared.line_outcome.LineOutcome.{LineOutcome}
use Rattle.line_service.specs.Service.{LineRun, IsAnswer, answer_text, AreAnswered, all_done, all_told, service_text}

-- what is kept of the line that is being read: all of it, or that it is too long
abbrev pub IsHeld : List ℕ → Bool → List ℕ → Type 0
IsHeld bytes false part = (bytes ≡ part) × (length part ≤ 4096)
IsHeld bytes true part = 4096 < length part

-- some of a line's steps are done, these are left, and what they output is written
pub record IsHalfDone (plant : PlantFields) (start : Start) (before : List Step) (shown : List Out) (steps : List LineStep) (live : CoreView) (old new : Option (List ℕ)) (left : List LineStep) : Type 0 where
  pub at : ℕ
  pub told : List Out
  pub after : IsAfterFrom plant start (before ++ steps_without_numbers (take at steps)) (shown ++ told) live
  pub written : Appends old new (outs_text plant told)
  pub left_are : drop at steps ≡ left

-- the line has this answer, and what its steps output is written
pub record HasAnswered (plant : PlantFields) (start : Start) (before : List Step) (shown : List Out) (number : ℕ) (line : List ℕ) (live : CoreView) (end : LineOutcome) (old new : Option (List ℕ)) : Type 0 where
  pub answered : LineRun
  pub is : IsAnswer plant start before shown number line live answered
  pub end_is : answered.end ≡ end
  pub written : Appends old new (outs_text plant answered.told)

-- the line is answered, and the answer written
pub record LineIsAnswered (plant : PlantFields) (start : Start) (before : List Step) (shown : List Out) (number : ℕ) (line : List ℕ) (live : CoreView) (old new : Option (List ℕ)) : Type 0 where
  pub answered : LineRun
  pub is : IsAnswer plant start before shown number line live answered
  pub written : Appends old new (answer_text plant number answered)

-- so many lines are answered, and these are left
pub record IsServedSoFar (plant : PlantFields) (start : Start) (before : List Step) (shown : List Out) (input : List ℕ) (left : List (List ℕ)) (number : ℕ) (live : CoreView)
    (old new : Option (List ℕ)) : Type 0 where
  pub lines : List (List ℕ)
  pub answers : List LineRun
  pub lines_are : lines_of input ≡ lines ++ left
  pub number_is : number ≡ 1 + length lines
  pub answered : AreAnswered plant start before shown 1 lines answers
  pub after : IsAfterFrom plant start (before ++ all_done answers) (shown ++ all_told answers) live
  pub written : Appends old new (service_text plant 1 answers)
