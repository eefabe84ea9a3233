-- A service from the opening of its plant on.
use Rattle.std.proofs.Common.{ℕ, List, [], Option, Some, None, IfSome}
use Rattle.plant.specs.declared.plant.PlantFields.{PlantFields}
use Rattle.run_model.specs.declared.step.Out.{Out}
use Rattle.run_model.specs.declared.step.Step.{Step}
use Rattle.run_model.specs.Starts.{Start, first_start}
use Rattle.run_model.specs.IsStateAfter.{CoreView}
use Rattle.plant_core.specs.live.After.{IsAfter, IsAfterFrom}
use Rattle.line_service.specs.Service.{IsServiceOf}
use Rattle.json_service.specs.Served.{IsServedFromOpening}

pub served : (known : Option (List ℕ)) (plant : PlantFields) (live new : CoreView) (w0 w1 : Option (List ℕ)) → IsAfter plant [] [] live
    → IfSome known (λ input. (p : PlantFields) (start : Start) (before : List Step) (shown : List Out) → IsAfterFrom p start before shown live → IsServiceOf p start before shown input new w0 w1)
    → IfSome known (λ input. IsServedFromOpening plant input w0 w1)
served None plant live new w0 w1 after serves = tt
served (Some input) plant live new w0 w1 after serves = (new, serves plant (first_start plant) [] [] after)
