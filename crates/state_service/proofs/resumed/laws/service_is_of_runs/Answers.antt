use Rattle.state_service.proofs.ResumedLemmas.PeriodLemmas.{service_runs}
use Rattle.state_service.proofs.resumed.laws.service_is_of_runs.Goals as goal

pub returns : goal.returns
returns c = service_runs
