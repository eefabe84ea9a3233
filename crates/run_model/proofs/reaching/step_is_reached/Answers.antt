use Rattle.run_model.proofs.OneStep.{step_reached}
use Rattle.run_model.proofs.reaching.step_is_reached.Goals as goal

pub returns : goal.returns
returns c = step_reached
