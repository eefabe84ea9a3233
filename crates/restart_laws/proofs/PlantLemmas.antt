-- What the plant file in force says of the plant.
use Rattle.std.proofs.Common.{◌≤◌, ◌≡◌, List, [], ◌∷◌, ◌++◌, Option, Some, None, Result, Ok, Err, subst}
use Rattle.restart_laws.proofs.Common.{AllByRecursion, recursion-append, IsOperatorName, IsPlant, ConstsFields, RowFields, PlantFields, PlantFault, text_plant}
use Rattle.toml.specs.Data.{Data, Members, Items, no_items, item}
use Rattle.slice_table.specs.declared.plant_fault.PlantFault.TheVariants.{NotToml}
use Rattle.slice_table.specs.Says.{SayInTurn, SaysRow, SaysPlant}
use Rattle.slice_table.proofs.SaidPlant.{plant_is}

pub said : (document : Option Members) (plant : PlantFields) → text_plant document ≡ Ok plant → (ms : Members) × SaysPlant ms plant
said None plant is = absurd (let wrong : ◌≡◌ {A = Result PlantFields PlantFault} (Err NotToml) (Ok plant) = is in cc)
said (Some ms) plant is = (ms, (plant_is ms plant).0 is)

pub valid_plant : (document : Option Members) (plant : PlantFields) → text_plant document ≡ Ok plant → IsPlant plant
valid_plant document plant is = (said document plant is).1.valid

-- what is said of each row
module _ (P : RowFields → Type 0) where
  in_turn : (consts : ConstsFields) → ((before : List RowFields) (d : Data) (row : RowFields) → SaysRow consts before d row → P row) → (done : List RowFields) (ds : Items) (rows : List RowFields) → AllByRecursion P done
      → SayInTurn (SaysRow consts) done ds rows → AllByRecursion P rows
  in_turn consts each done no_items rows so_far says = subst (AllByRecursion P) says so_far
  in_turn consts each done (item d ds) rows so_far says =
      in_turn consts each (done ++ says.0 ∷ []) ds rows (recursion-append P done (says.0 ∷ []) so_far (each done d says.0 says.1, tt)) says.2

  of_rows : (document : Option Members) (plant : PlantFields) → ((before : List RowFields) (d : Data) (row : RowFields) → SaysRow plant.consts before d row → P row) → text_plant document ≡ Ok plant → AllByRecursion P plant.rows
  of_rows document plant each is = let says = said document plant is in in_turn plant.consts each [] says.1.rows.ds plant.rows tt says.1.rows.each

-- each row has a name of letters and digits
pub have_names : (document : Option Members) (plant : PlantFields) → text_plant document ≡ Ok plant → AllByRecursion (λ (row : RowFields). IsOperatorName row.name) plant.rows
have_names document plant is = of_rows (λ (row : RowFields). IsOperatorName row.name) document plant (λ before d row says. says.name.valid) is

-- and a slice with a minislot
pub have_minislots : (document : Option Members) (plant : PlantFields) → text_plant document ≡ Ok plant → AllByRecursion (λ (row : RowFields). 1 ≤ row.slice.length) plant.rows
have_minislots document plant is = of_rows (λ (row : RowFields). 1 ≤ row.slice.length) document plant (λ before d row says. says.slice.some) is
