-- What is due of each operator (implementation-specific).
use Rattle.std.specs.Prelude.{◌≡◌, ◌≤◌, List, length, take}
use Rattle.plant.specs.declared.plant.PlantFields.{PlantFields}
use Rattle.run_model.specs.declared.step.Step.{Step}
use Rattle.run_model.specs.OwnSteps.{collects_of}
use Rattle.run_model.specs.IsTraceOf.{isolated_run}
use Rattle.run_model.specs.IsStateAfter.{frames_of}
use Rattle.run_model.specs.Places.{AtEachOperator}
use Rattle.plant_workers.specs.declared.audit.placing.Placing.{Placing}
use Rattle.plant_workers.specs.audit.Placings.{puts_of}

-- each operator put, in order, just so many of the frames of its own machine run alone as the steps collect of it
pub record AreDue (plant : PlantFields) (steps : List Step) (placings : List Placing) : Type 0 where
  pub put : AtEachOperator plant
      (λ i row. puts_of i placings ≡ take (collects_of i steps) (frames_of (isolated_run plant.consts row i steps).outputs))
  pub enough : AtEachOperator plant
      (λ i row. collects_of i steps ≤ length (frames_of (isolated_run plant.consts row i steps).outputs))
