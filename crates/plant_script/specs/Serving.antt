-- A plant in service, and the plant file before it (implementation-specific).
use Rattle.std.specs.Prelude.{◌≡◌, ◌⊎◌, ℕ, List, [], ◌++◌, Option, IfSome, Ok, Err, codes}
use Rattle.toml.specs.Parse.{parse_document}
use Rattle.plant.specs.declared.plant.PlantFields.{PlantFields}
use Rattle.slice_table.specs.declared.plant_fault.PlantFault.{PlantFault}
use Rattle.slice_table.specs.ReadPlant.{text_plant}
use Rattle.run_model.specs.Starts.{first_start}
use Rattle.run_model.specs.IsStateAfter.{CoreView}
use Rattle.plant_core.specs.live.After.{IsAfter}
use Rattle.line_service.specs.script.Lines.{lines_of}
use Rattle.line_service.specs.Service.{LineRun, AreAnswered, service_text, all_done, all_told}
use Rattle.plant_script.specs.Check.{fault_text}
use Rattle.plant_script.specs.Run.{memory_line}
use Rattle.plant_script.specs.Statuses.{status_code}
use Rattle.plant_script.specs.declared.serving.Front.{Front}
use Rattle.plant_script.specs.declared.serving.Front.TheVariants as fronts

-- all lines are answered from a core of the plant as it is opened, and their answers are written
pub record IsServed (plant : PlantFields) (script : List ℕ) (status : ℕ) (text : List ℕ) : Type 0 where
  pub status_is : status ≡ 0
  pub answers : List LineRun
  pub live : CoreView
  pub answered : AreAnswered plant (first_start plant) [] [] 1 (lines_of script) answers
  pub after : IsAfter plant (all_done answers) (all_told answers) live
  pub text_is : text ≡ service_text plant 1 answers

-- the lines that are read are answered so, and their answers are written; or memory ran out before the first of them, and its
-- line is written alone
abbrev pub EndsService : PlantFields → Option (List ℕ) → ℕ → (List ℕ → Type 0) → Type 0
EndsService plant read status wrote =
    ((status ≡ 5) × wrote memory_line)
    ⊎ ((status ≡ 0) × IfSome read (λ script. (text : List ℕ) × IsServed plant script status text × wrote text))

-- a plant file is a plant, or at fault
abbrev pub IsFrontOf : List ℕ → Front → Type 0
IsFrontOf text (fronts.Plant service) = text_plant (parse_document text) ≡ Ok service.plant
IsFrontOf text (fronts.Answer answer) =
    (fault : PlantFault) × (text_plant (parse_document text) ≡ Err fault) × (status_code answer.status ≡ 3)
    × (answer.text.items ≡ codes "fault: plant " ++ fault_text fault)
