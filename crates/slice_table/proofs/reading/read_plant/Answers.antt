use Rattle.std.proofs.Common.{◌≡◌, Option, Some, None, Ok, Err, IfOk, refl, ap, subst, ◌∙◌}
use Rattle.slice_table.proofs.Common.{Members, PlantFields, Gives, PlantResult, plant_cause, SaysPlant}
use Rattle.toml.specs.Parse.{parse_document}
use Rattle.slice_table.specs.ReadPlant.{text_plant}
use Rattle.slice_table.proofs.SaidPlant.{plant_is}
use Rattle.slice_table.proofs.reading.read_plant.Goals as goal

said : (o : Option Members) (r : PlantResult PlantFields) → Gives plant_cause (λ p. p) r (text_plant o) → IfOk r (λ plant. (document : Members) × (o ≡ Some document) × SaysPlant document plant)
said None (Ok plant) h = cc
said (Some document) (Ok plant) h = (document, refl, (plant_is document plant).0 h)
said o (Err fault) h = tt

pub returns-clause-found : goal.returns-clause-found
returns-clause-found c = said (parse_document c.args.text.now) c.plant_of_text.result c.plant_of_text.ensures

pub returns-clause-only : goal.returns-clause-only
returns-clause-only c document plant parsed says =
    subst (λ (read : PlantResult PlantFields). Gives plant_cause (λ p. p) c.plant_of_text.result read) (ap text_plant parsed ∙ (plant_is document plant).1 says) c.plant_of_text.ensures
