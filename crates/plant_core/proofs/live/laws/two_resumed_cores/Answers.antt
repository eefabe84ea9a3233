use Rattle.plant_core.proofs.LiveLemmas.LawLemmas.{two_resumed}
use Rattle.plant_core.proofs.live.laws.two_resumed_cores.Goals as goal

pub returns : goal.returns
returns c = two_resumed
