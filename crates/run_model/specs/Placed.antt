-- The operator that something arrives at, where it is known beforehand (implementation-specific).
use Rattle.std.specs.Prelude.{◌≡◌, ℕ, Option, Some}
use Rattle.dsx_messages.specs.declared.modem.Modem.{Modem}
use Rattle.plant.specs.declared.plant.PlantFields.{PlantFields}
use Rattle.plant.specs.Roster.{holder}
use Rattle.operator_model.specs.declared.heard.Heard.{Heard}
use Rattle.run_model.specs.declared.step.Step.{Step}
use Rattle.run_model.specs.declared.step.Step.TheVariants.{Arrive}

-- where something arrives and a place is stated, it is that of the operator that lists the modem
abbrev pub IsPlaced : PlantFields → Step → Option ℕ → Type 0
IsPlaced plant step place = (op : ℕ) (modem : Modem) (heard : Heard) → place ≡ Some op → step ≡ Arrive modem heard
    → holder plant.rows modem ≡ Some op
