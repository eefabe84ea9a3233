use Rattle.run_model.proofs.TwoRuns.{notice_same}
use Rattle.run_model.proofs.laws.non_interference.Goals as goal

pub returns : goal.returns
returns c = notice_same
