use Rattle.plant_core.proofs.LiveLemmas.GoLemmas.{after_more}
use Rattle.plant_core.proofs.live.laws.step_goes_on.Goals as goal

pub returns : goal.returns
returns c = after_more
