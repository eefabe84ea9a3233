-- A plant in service, from its opening on (implementation-specific).
use Rattle.std.specs.Prelude.{ℕ, List, [], Option}
use Rattle.plant.specs.declared.plant.PlantFields.{PlantFields}
use Rattle.run_model.specs.Starts.{first_start}
use Rattle.run_model.specs.IsStateAfter.{CoreView}
use Rattle.line_service.specs.Service.{IsServiceOf}

-- all lines of the input are answered from a core of the plant as it is opened, and their answers, which are those of `line_service`, are
-- written
abbrev pub IsServedFromOpening : PlantFields → List ℕ → Option (List ℕ) → Option (List ℕ) → Type 0
IsServedFromOpening plant input old new = (live : CoreView) × IsServiceOf plant (first_start plant) [] [] input live old new
