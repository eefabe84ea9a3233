-- Which steps were read so far.
use Rattle.std.proofs.Common.{◌≡◌, ℕ, ◌+◌, List, [], drop}
use Rattle.line_service.proofs.ScriptLemmas.Common.{PlantFields, LineStep, steps_after}

-- the steps of the lines before the place; the others go on after them
pub record AreStepsSoFar (plant : PlantFields) (lines : List (List ℕ)) (steps : List LineStep) (number place : ℕ) : Type 0 where
  pub number_is : number ≡ place + 1
  pub goes_on : steps_after plant number steps (drop place lines) ≡ steps_after plant 1 [] lines
