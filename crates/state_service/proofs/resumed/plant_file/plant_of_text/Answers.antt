use Rattle.std.proofs.Common.{◌≡◌, List, ℕ, Ok, subst}
use Rattle.state_service.proofs.ResumedLemmas.Common.{parse_document, text_plant}
use Rattle.state_service.proofs.ResumedLemmas.PlantFileLemmas.{valid_file}
use Rattle.state_service.proofs.resumed.plant_file.plant_of_text.Goals as goal

pub returns-in-Ok-read_plant-clause-ok : goal.returns-in-Ok-read_plant-clause-ok
returns-in-Ok-read_plant-clause-ok c lines whole is =
    let plant = c.in-Ok-read_plant.plant in
    valid_file lines c.args.text.now plant whole is c.in-Ok.ensures.cases.1
    (subst (λ (text : List ℕ). text_plant (parse_document text) ≡ Ok plant) c.in-Ok.ensures.cases.0 c.in-Ok-read_plant.ensures.exact)
