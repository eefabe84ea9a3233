use Rattle.run_model.proofs.Opening.{opened_reached}
use Rattle.run_model.proofs.reaching.opened_is_reached.Goals as goal

pub returns : goal.returns
returns c = opened_reached
