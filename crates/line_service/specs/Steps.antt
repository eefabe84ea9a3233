-- Steps of lines that are done one after the other, and what they output (implementation-specific).
use Rattle.run_model.specs.Starts.{Start}
use Rattle.std.specs.Prelude.{◌≡◌, ℕ, List, ◌++◌, take, slice_get, Option, Some, None, IsSome, ⊤}
use Rattle.std.specs.Io.KnownBytes.{Appends}
use Rattle.plant.specs.declared.plant.PlantFields.{PlantFields}
use Rattle.run_model.specs.declared.step.Step.{Step}
use Rattle.run_model.specs.declared.step.Out.{Out}
use Rattle.run_model.specs.IsStateAfter.{CoreView}
use Rattle.plant_core.specs.live.Faults.{step_fault}
use Rattle.plant_core.specs.live.After.{IsAfterFrom}
use Rattle.line_service.specs.declared.script.script.LineStep.{LineStep}
use Rattle.line_service.specs.script.Script.{steps_without_numbers}
use Rattle.line_service.specs.script.Text.{outs_text}
use Rattle.line_service.specs.declared.steps_end.StepsEnd.{StepsEnd}
use Rattle.line_service.specs.declared.steps_end.StepsEnd.TheVariants.{Done, Refused, NoMemory}

-- All steps are done; or the next one is refused, and its line's number is reported; or it is not refused, and an allocation
-- for it failed. So no refusal is reported as out of memory, nor out of memory where no step is left (implementation-specific).
abbrev pub IsStepsEndAt : CoreView → Option LineStep → StepsEnd → Type 0
IsStepsEndAt live None Done = ⊤
IsStepsEndAt live None (Refused number) = ⊥
IsStepsEndAt live None NoMemory = ⊥
IsStepsEndAt live (Some line) Done = ⊥
IsStepsEndAt live (Some line) (Refused number) = (number ≡ line.number) × IsSome (step_fault live line.step)
IsStepsEndAt live (Some line) NoMemory = step_fault live line.step ≡ None

-- so many of these steps are done after these steps and outputs, and it ended so; what they output is written
pub record HasDone (plant : PlantFields) (start : Start) (before : List Step) (shown : List Out) (steps : List LineStep) (live : CoreView) (end : StepsEnd) (old new : Option (List ℕ)) : Type 0 where
  pub at : ℕ
  pub told : List Out
  pub after : IsAfterFrom plant start (before ++ steps_without_numbers (take at steps)) (shown ++ told) live
  pub ends : IsStepsEndAt live (slice_get steps at) end
  pub written : Appends old new (outs_text plant told)
