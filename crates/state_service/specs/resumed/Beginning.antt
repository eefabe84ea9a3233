-- What is before the lines of a service: a plant file, or a snapshot in its place (implementation-specific).
use Rattle.std.specs.Prelude.{◌≡◌, ◌≢◌, ⊤, ℕ, List, [], ◌∷◌, ◌++◌, Bool, true, false, MatchBool, Option, Some, map, take, Ok, Err, if◌then◌else◌, codes}
use Rattle.std.specs.Str.{bytes_eq, is_utf8}
use Rattle.toml.specs.Parse.{parse_document}
use Rattle.plant.specs.declared.plant.PlantFields.{PlantFields}
use Rattle.slice_table.specs.ReadPlant.{text_plant}
use Rattle.line_service.specs.script.Input.{plant_text, script_text}
use Rattle.snapshot_format.specs.declared.saved.Snapshot.{Snapshot}
use Rattle.snapshot_format.specs.declared.fault.SnapshotFault.TheVariants.{Line}
use Rattle.snapshot_format.specs.Snapshot.{snapshot_of}
use Rattle.snapshot_format.specs.States.{states_of}
use Rattle.plant_restart.specs.declared.fault.RestoreFault.{RestoreFault}
use Rattle.plant_restart.specs.declared.fault.RestoreFault.TheVariants as restore
use Rattle.plant_restart.specs.declared.fault.RestartFault.TheVariants as restart
use Rattle.plant_restart.specs.Restarted.{IsRestoreFault}
use Rattle.state_service.specs.declared.resumed.begin_fault.BeginFault.{BeginFault}
use Rattle.state_service.specs.declared.resumed.begin_fault.BeginFault.TheVariants.{NotText, InvalidSnapshot, InvalidPlant, NotRestored, NoMemory}

-- ---- the text of it

-- a text that begins so is a snapshot, whatever its version
abbrev pub is_snapshot_head : List ℕ → Bool
is_snapshot_head text = bytes_eq (take 18 text) (codes "melfjits-snapshot ")

-- the text before the lines: a plant file up to the first line of three dashes; or a snapshot, which has one such line in itself, up to
-- the second one
abbrev pub front_text : List ℕ → List ℕ
front_text input = if is_snapshot_head (plant_text input) then plant_text input ++ (codes "---" ++ 10 ∷ plant_text (script_text input)) else plant_text input

-- the lines of an input after the text before them
abbrev pub lines_after : List ℕ → List ℕ
lines_after input = if is_snapshot_head (plant_text input) then script_text (script_text input) else script_text input

-- ---- what it says

-- what a plant file begins with: no operator is saved, so each is opened before the plant's first frame
abbrev pub new_snapshot : List ℕ → PlantFields → Snapshot
new_snapshot text plant = record { plant = text; frame = plant.consts.channel.first_frame; operators = [] }

-- a text that is not a snapshot is a plant file of this plant
pub record BeginsAnew (text : List ℕ) (plant : PlantFields) (saved : Snapshot) : Type 0 where
  pub plant_is : text_plant (parse_document text) ≡ Ok plant
  pub saved_is : saved ≡ new_snapshot text plant

-- a text is this snapshot, whose plant file is of this plant
pub record GoesOnFrom (text : List ℕ) (plant : PlantFields) (saved : Snapshot) : Type 0 where
  pub saved_is : snapshot_of text ≡ Ok saved
  pub plant_is : text_plant (parse_document saved.plant) ≡ Ok plant

-- the plant and the states that a text says
abbrev pub IsBeginning : List ℕ → PlantFields → Snapshot → Type 0
IsBeginning text plant saved = MatchBool (is_snapshot_head text) (GoesOnFrom text plant saved) (BeginsAnew text plant saved)

-- the text before the lines of an input is read, it says this plant and these states, and the lines are left
pub record IsBeginningRead (input : List ℕ) (left : Option (List ℕ)) (plant : PlantFields) (saved : Snapshot) : Type 0 where
  pub begins : IsBeginning (front_text input) plant saved
  pub left_is : left ≡ Some (lines_after input)

-- ---- why there is none

-- the plant file that is in a snapshot
abbrev pub IsSavedFile : List ℕ → List ℕ → Type 0
IsSavedFile text file = (saved : Snapshot) × (snapshot_of text ≡ Ok saved) × (file ≡ saved.plant)

-- the plant file: that of the snapshot, or the text itself
abbrev pub IsPlantFile : List ℕ → List ℕ → Type 0
IsPlantFile text file = MatchBool (is_snapshot_head text) (IsSavedFile text file) (file ≡ text)

-- what a fault says of a plant file
abbrev pub IsFileFault : List ℕ → BeginFault → Type 0
IsFileFault file NotText = is_utf8 file ≡ false
IsFileFault file (InvalidSnapshot number wrong) = ⊥
IsFileFault file (InvalidPlant fault) = text_plant (parse_document file) ≡ Err fault
IsFileFault file (NotRestored why) = ⊥
IsFileFault file NoMemory = ⊤

-- what it says of the text before the lines
abbrev pub IsTextFault : List ℕ → BeginFault → Type 0
IsTextFault text NotText = (file : List ℕ) × IsPlantFile text file × IsFileFault file NotText
IsTextFault text (InvalidSnapshot number wrong) = (is_snapshot_head text ≡ true) × (snapshot_of text ≡ Err (Line number wrong))
IsTextFault text (InvalidPlant fault) = (file : List ℕ) × IsPlantFile text file × IsFileFault file (InvalidPlant fault)
IsTextFault text (NotRestored why) = ⊥
IsTextFault text NoMemory = ⊤

-- what it says of a plant that is to start in saved states
abbrev pub IsRestoringFault : PlantFields → Snapshot → BeginFault → Type 0
IsRestoringFault plant saved NotText = ⊥
IsRestoringFault plant saved (InvalidSnapshot number wrong) = ⊥
IsRestoringFault plant saved (InvalidPlant fault) = ⊥
IsRestoringFault plant saved (NotRestored why) =
    IsRestoreFault plant saved.frame (states_of saved) why × (why ≢ restore.Restart restart.NoMemory)
IsRestoringFault plant saved NoMemory = ⊤

-- the text says a plant and states, and the plant does not start in these
pub record IsNotRestored (text : List ℕ) (why : RestoreFault) : Type 0 where
  pub plant : PlantFields
  pub saved : Snapshot
  pub begins : IsBeginning text plant saved
  pub refused : IsRestoringFault plant saved (NotRestored why)

-- what each fault says of the text before the lines: it says no plant, or the plant does not start in the saved states; out of memory says
-- nothing of it
abbrev pub IsBeginFault : List ℕ → BeginFault → Type 0
IsBeginFault text NotText = IsTextFault text NotText
IsBeginFault text (InvalidSnapshot number wrong) = IsTextFault text (InvalidSnapshot number wrong)
IsBeginFault text (InvalidPlant fault) = IsTextFault text (InvalidPlant fault)
IsBeginFault text (NotRestored why) = IsNotRestored text why
IsBeginFault text NoMemory = ⊤
