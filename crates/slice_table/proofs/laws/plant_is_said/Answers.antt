use Rattle.slice_table.proofs.SaidPlant.{plant_is}
use Rattle.slice_table.proofs.laws.plant_is_said.Goals as goal

pub returns : goal.returns
returns c = plant_is
