use Rattle.run_model.proofs.Runs.{opened_run}
use Rattle.run_model.proofs.reaching.run_is_reached.Goals as goal

pub returns : goal.returns
returns c = opened_run
