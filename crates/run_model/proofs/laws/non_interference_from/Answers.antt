use Rattle.run_model.proofs.TwoRuns.{notice_from}
use Rattle.run_model.proofs.laws.non_interference_from.Goals as goal

pub returns : goal.returns
returns c = notice_from
