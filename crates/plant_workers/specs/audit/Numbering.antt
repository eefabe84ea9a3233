-- Frames by their numbers (implementation-specific).
use Rattle.std.specs.Prelude.{◌≡◌, ℕ, ◌+◌, List, slice_get, Some}
use Rattle.slice_scheduler.specs.declared.elements.ElementsFields.{ElementsFields}
use Rattle.operator_model.specs.Replay.{BookView}
use Rattle.run_model.specs.declared.step.Step.{Step}
use Rattle.run_model.specs.IsStateAfter.{AreNumbered}
use Rattle.plant_workers.specs.declared.audit.placing.Placing.{Placing}
use Rattle.plant_workers.specs.audit.Placings.{puts_of}
use Rattle.plant_workers.specs.audit.Outs.{due_of}
use Rattle.plant_workers.specs.audit.Straying.{DifferFirst}

-- what each operator put, and what was due of it, is numbered from the first frame on
abbrev pub AllAreNumbered : ℕ → List Step → List BookView → List Placing → Type 0
AllAreNumbered first steps books placings =
    (i : ℕ) (book : BookView) → slice_get books i ≡ Some book
    → AreNumbered first (puts_of i placings) × AreNumbered first (due_of steps i book)

-- the frame of this number is the first that was not put as it was due
pub record IsMissed (first : ℕ) (puts due : List (ℕ × ElementsFields)) (frame : ℕ) : Type 0 where
  pub place : ℕ
  pub frame_is : frame ≡ first + place
  pub differ : DifferFirst puts due place
