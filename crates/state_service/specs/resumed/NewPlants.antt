-- Why a plant is not changed to that of a plant file (implementation-specific).
use Rattle.std.specs.Prelude.{◌≡◌, ◌≢◌, ◌<◌, ℕ, List, length, map, true, false, Err}
use Rattle.std.specs.Str.{is_utf8}
use Rattle.toml.specs.Parse.{parse_document}
use Rattle.plant.specs.declared.plant.PlantFields.{PlantFields}
use Rattle.plant.specs.Consts.{KeepsConsts}
use Rattle.slice_table.specs.ReadPlant.{text_plant}
use Rattle.run_model.specs.IsStateAfter.{CoreView}
use Rattle.plant_core.specs.live.Resting.{Rests}
use Rattle.line_service.specs.declared.line_outcome.LineOutcome.{LineOutcome}
use Rattle.line_service.specs.declared.line_outcome.LineOutcome.TheVariants as outcomes
use Rattle.line_service.specs.Service.{end_text}
use Rattle.plant_restart.specs.declared.fault.ChangeFault.{ChangeFault}
use Rattle.plant_restart.specs.declared.fault.ChangeFault.TheVariants.{Restart}
use Rattle.plant_restart.specs.declared.fault.RestartFault.TheVariants as restart_faults
use Rattle.plant_restart.specs.Changing.{IsChangeFault}
use Rattle.state_service.specs.declared.resumed.new_plant_fault.NewPlantFault.{NewPlantFault}
use Rattle.state_service.specs.declared.resumed.new_plant_fault.NewPlantFault.TheVariants.{NotEnded, TooLong, NotText, InvalidPlant, NotChanged, NoMemory}
use Rattle.state_service.specs.resumed.PlantFiles.{is_ended, file_text, most_bytes, IsWhole, IsPlantFileText, IsFileOf}

-- what a fault says of these lines. Each is stated where none before it in the order of the faults is there, so of those but
-- `NoMemory` one alone is there. That the file is not ended is found without memory.
abbrev pub IsNewFileFault : List (List ℕ) → NewPlantFault → Type 0
IsNewFileFault lines NotEnded = is_ended lines ≡ false
IsNewFileFault lines TooLong = (is_ended lines ≡ true) × (most_bytes < length (file_text lines))
IsNewFileFault lines NotText = IsWhole lines × (is_utf8 (file_text lines) ≡ false)
IsNewFileFault lines (InvalidPlant fault) = IsPlantFileText lines × (text_plant (parse_document (file_text lines)) ≡ Err fault)
IsNewFileFault lines (NotChanged why) = ⊥
IsNewFileFault lines NoMemory = is_ended lines ≡ true

-- the plant of a core is not changed to this plant, and not because memory ran out
abbrev pub IsNotChanged : CoreView → PlantFields → ChangeFault → Type 0
IsNotChanged live plant why = IsChangeFault live plant why × (why ≢ Restart restart_faults.NoMemory)

-- what a fault says of a core and of a plant. Memory is asked for where the core rests and the constants are kept.
abbrev pub IsChangeRefusal : CoreView → PlantFields → NewPlantFault → Type 0
IsChangeRefusal live plant NotEnded = ⊥
IsChangeRefusal live plant TooLong = ⊥
IsChangeRefusal live plant NotText = ⊥
IsChangeRefusal live plant (InvalidPlant fault) = ⊥
IsChangeRefusal live plant (NotChanged why) = IsNotChanged live plant why
IsChangeRefusal live plant NoMemory = KeepsConsts live.plant.consts plant.consts × ((frame : ℕ) × Rests live frame)

-- the file is valid, and the plant of the core is not changed to its plant
pub record IsRefusedPlant (live : CoreView) (lines : List (List ℕ)) (why : ChangeFault) : Type 0 where
  pub plant : PlantFields
  pub is_file : IsFileOf lines plant
  pub refused : IsNotChanged live plant why

-- what each fault says of why the plant of a core is not changed to that of these lines
abbrev pub IsNewPlantFault : CoreView → List (List ℕ) → NewPlantFault → Type 0
IsNewPlantFault live lines NotEnded = IsNewFileFault lines NotEnded
IsNewPlantFault live lines TooLong = IsNewFileFault lines TooLong
IsNewPlantFault live lines NotText = IsNewFileFault lines NotText
IsNewPlantFault live lines (InvalidPlant fault) = IsNewFileFault lines (InvalidPlant fault)
IsNewPlantFault live lines (NotChanged why) = IsRefusedPlant live lines why
IsNewPlantFault live lines NoMemory = IsNewFileFault lines NoMemory

-- ---- the answer

-- out of memory, or an invalid line
abbrev pub refusal_outcome : NewPlantFault → LineOutcome
refusal_outcome NotEnded = outcomes.AtFault
refusal_outcome TooLong = outcomes.AtFault
refusal_outcome NotText = outcomes.AtFault
refusal_outcome (InvalidPlant fault) = outcomes.AtFault
refusal_outcome (NotChanged why) = outcomes.AtFault
refusal_outcome NoMemory = outcomes.NoMemory

-- the answer to a line `P` to whose plant file the plant is not changed
abbrev pub refusal_text : ℕ → NewPlantFault → List ℕ
refusal_text number fault = end_text number (refusal_outcome fault)
