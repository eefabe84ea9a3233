use Rattle.plant_core.proofs.LiveLemmas.RestLemmas.{resting}
use Rattle.plant_core.proofs.live.laws.resting_core_is_at_rest.Goals as goal

pub returns : goal.returns
returns c = resting
