use Rattle.plant.proofs.Holders.{holder_is}
use Rattle.plant.proofs.laws.holder_is_first.Goals as goal

pub returns : goal.returns
returns c = holder_is
