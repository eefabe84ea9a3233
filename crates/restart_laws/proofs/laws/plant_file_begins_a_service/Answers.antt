use Rattle.restart_laws.proofs.BegunLemmas.{file_begins}
use Rattle.restart_laws.proofs.laws.plant_file_begins_a_service.Goals as goal

pub returns : goal.returns
returns c = file_begins
