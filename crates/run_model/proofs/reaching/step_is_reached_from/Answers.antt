use Rattle.run_model.proofs.OneStep.{step_from}
use Rattle.run_model.proofs.reaching.step_is_reached_from.Goals as goal

pub returns : goal.returns
returns c = step_from
