-- What `check` answers to an input: a plant file, and the script after it (implementation-specific).
use Rattle.std.specs.Prelude.{ℕ, List, [], ◌∷◌, ◌++◌, Result, Ok, Err, if◌then◌else◌, codes}
use Rattle.std.specs.Fmt.{decimal}
use Rattle.toml.specs.Parse.{parse_document}
use Rattle.dsx_messages.specs.Modem.{hex_digits}
use Rattle.plant.specs.declared.plant.PlantFields.{PlantFields}
use Rattle.slice_table.specs.declared.plant_fault.PlantFault.{PlantFault}
use Rattle.slice_table.specs.declared.plant_fault.PlantFault.TheVariants.{NotToml, Missing, BadValue, SlicesMeet, SidsMeet, SfidsMeet, ModemTwice, TooManyElements, BudgetOverSlice, ProvisionedOver, NoMemory}
use Rattle.slice_table.specs.Keys.{key_text}
use Rattle.slice_table.specs.ReadPlant.{text_plant}
use Rattle.line_service.specs.declared.script.script.LineStep.{LineStep}
use Rattle.line_service.specs.script.Input.{plant_text, script_text}
use Rattle.line_service.specs.script.Script.{steps_of}
use Rattle.plant_script.specs.One.{Answer, is_readable}

-- ---- the line of an invalid plant

-- a text and a line feed
abbrev pub text_line : List ℕ → List ℕ
text_line text = text ++ 10 ∷ []

-- the names of two operators, and a line feed
abbrev pub two_names : List ℕ → List ℕ → List ℕ
two_names a b = a ++ (codes " " ++ text_line b)

-- the fault's number, and what it names
unfoldable pub fault_text : PlantFault → List ℕ
fault_text NotToml = text_line (codes "1")
fault_text (Missing key) = codes "2 " ++ text_line (key_text key)
fault_text (BadValue key) = codes "3 " ++ text_line (key_text key)
fault_text (SlicesMeet a b) = codes "4 " ++ two_names a b
fault_text (SidsMeet a b) = codes "5 " ++ two_names a b
fault_text (SfidsMeet a b) = codes "6 " ++ two_names a b
fault_text (ModemTwice modem) = codes "7 " ++ text_line (hex_digits modem.0)
fault_text (TooManyElements total) = codes "8 " ++ text_line (decimal total)
fault_text (BudgetOverSlice operator) = codes "9 " ++ text_line operator
fault_text (ProvisionedOver operator) = codes "10 " ++ text_line operator
fault_text NoMemory = []

-- ---- the whole

-- what `check` answers to a script: `ok`, or its first invalid line with status 4
abbrev pub answer_to_steps : Result (List LineStep) ℕ → Answer
answer_to_steps (Ok steps) = record { status = 0; text = codes "ok" ++ 10 ∷ [] }
answer_to_steps (Err number) = record { status = 4; text = codes "fault: line " ++ (decimal number ++ 10 ∷ []) }

-- what `check` answers to a plant file: that of its script, or the plant's fault with status 3
abbrev pub answer_to_plant : Result PlantFields PlantFault → List ℕ → Answer
answer_to_plant (Ok plant) script = answer_to_steps (steps_of plant script)
answer_to_plant (Err fault) script = record { status = 3; text = codes "fault: plant " ++ fault_text fault }

-- the plant is judged first, then the script
unfoldable pub check_of : List ℕ → Answer
check_of input =
    if is_readable input then answer_to_plant (text_plant (parse_document (plant_text input))) (script_text input)
    else record { status = 6; text = codes "fault: io" ++ 10 ∷ [] }
