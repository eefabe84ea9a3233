-- What was done of a script at one of its lines.
use Rattle.std.proofs.Common.{◌≡◌, ℕ, List, take, drop}
use Rattle.plant_script.proofs.Common.{PlantFields, Out, CoreView, LineStep, AreDone}

-- some of the lines' steps are done, and these lines are left
pub record IsHalfDone (plant : PlantFields) (lines : List LineStep) (say : List Out → List ℕ) (core : CoreView) (text : List ℕ) (left : List LineStep) : Type 0 where
  pub at : ℕ
  pub done : AreDone plant (take at lines) say core text
  pub left_are : drop at lines ≡ left
