use Rattle.run_model.proofs.TwoCoreLemmas.{cores_same}
use Rattle.run_model.proofs.laws.two_cores.Goals as goal

pub returns : goal.returns
returns c = cores_same
