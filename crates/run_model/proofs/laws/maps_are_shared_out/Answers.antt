use Rattle.run_model.proofs.SharingOut.{shared_out}
use Rattle.run_model.proofs.laws.maps_are_shared_out.Goals as goal

pub returns : goal.returns
returns c = shared_out
