use Rattle.run_model.proofs.PeriodLemmas.{alike}
use Rattle.run_model.proofs.laws.changes_are_not_noticed.Goals as goal

pub returns : goal.returns
returns c = alike
