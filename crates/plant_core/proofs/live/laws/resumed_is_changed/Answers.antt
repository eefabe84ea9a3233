use Rattle.plant_core.proofs.LiveLemmas.ChangedLemmas.{changed}
use Rattle.plant_core.proofs.live.laws.resumed_is_changed.Goals as goal

pub returns : goal.returns
returns c = changed
