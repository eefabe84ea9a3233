use Rattle.plant_core.proofs.LiveLemmas.LawLemmas.{two_live}
use Rattle.plant_core.proofs.live.laws.two_live_cores.Goals as goal

pub returns : goal.returns
returns c = two_live
