use Rattle.state_service.proofs.ResumedLemmas.PeriodLemmas.{service_changes}
use Rattle.state_service.proofs.resumed.laws.service_is_of_changes.Goals as goal

pub returns : goal.returns
returns c = service_changes
