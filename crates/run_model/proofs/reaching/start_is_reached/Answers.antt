use Rattle.run_model.proofs.Opening.{started_reached}
use Rattle.run_model.proofs.reaching.start_is_reached.Goals as goal

pub returns : goal.returns
returns c = started_reached
