-- What the bytes of a plant file say (implementation-specific).
use Rattle.std.specs.Prelude.{◌≡◌, ℕ, List, [], Err, if◌then◌else◌}
use Rattle.std.specs.Str.{is_utf8}
use Rattle.toml.specs.Parse.{parse_document}
use Rattle.plant.specs.declared.plant.PlantFields.{PlantFields}
use Rattle.slice_table.specs.declared.plant_fault.PlantFault.TheVariants.{NotToml}
use Rattle.slice_table.specs.Tree.{PlantResult}
use Rattle.slice_table.specs.ReadPlant.{text_plant}

-- the plant, or the first fault of the file: a file that is not UTF-8 is not TOML
abbrev pub plant_said : List ℕ → PlantResult PlantFields
plant_said bytes = if is_utf8 bytes then text_plant (parse_document bytes) else Err NotToml
