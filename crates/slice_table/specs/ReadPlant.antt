-- What a plant file says: the plant of its text, or the first fault (implementation-specific).
use Rattle.std.specs.Prelude.{Option, Some, None, Err}
use Rattle.toml.specs.Data.{Members}
use Rattle.lists.specs.Results.{◌>>=◌}
use Rattle.plant.specs.declared.plant.PlantFields.{PlantFields}
use Rattle.slice_table.specs.declared.plant_fault.PlantFault.TheVariants.{NotToml}
use Rattle.slice_table.specs.Tree.{PlantResult}
use Rattle.slice_table.specs.ReadConsts.{consts_of}
use Rattle.slice_table.specs.ReadRows.{rows_of}
use Rattle.slice_table.specs.Checks.{rows_fault, unless}

-- the plant of a document, or its first fault: the keys are judged in their order, and then all of them together
unfoldable pub plant_of : Members → PlantResult PlantFields
plant_of ms = do
  consts ← consts_of ms
  rows ← rows_of consts ms
  unless (rows_fault consts rows) (record { consts = consts; rows = rows })

-- the plant of a text, or its first fault; of a text that is not TOML there is no document
abbrev pub text_plant : Option Members → PlantResult PlantFields
text_plant None = Err NotToml
text_plant (Some ms) = plant_of ms
