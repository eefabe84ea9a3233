use Rattle.restart_laws.proofs.ReadyLemmas.{answered_ready, begins_service, is_served}
use Rattle.restart_laws.proofs.laws.snapshot_begins_a_service.Goals as goal

pub returns-clause-ready : goal.returns-clause-ready
returns-clause-ready c = answered_ready

pub returns-clause-begins : goal.returns-clause-begins
returns-clause-begins c = begins_service

pub returns-clause-served : goal.returns-clause-served
returns-clause-served c = is_served
