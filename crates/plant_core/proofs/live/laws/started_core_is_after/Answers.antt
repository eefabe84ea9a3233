use Rattle.plant_core.proofs.LiveLemmas.GoLemmas.{started_after}
use Rattle.plant_core.proofs.live.laws.started_core_is_after.Goals as goal

pub returns : goal.returns
returns c = started_after
