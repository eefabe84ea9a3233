use Rattle.plant_core.proofs.LiveLemmas.RestLemmas.{standing}
use Rattle.plant_core.proofs.live.laws.books_stand_now.Goals as goal

pub returns : goal.returns
returns c = standing
