use Rattle.restart_laws.proofs.ReadyLemmas.{restored, no_other_fault}
use Rattle.restart_laws.proofs.laws.saved_states_are_restored.Goals as goal

pub returns-clause-restored : goal.returns-clause-restored
returns-clause-restored c = restored

pub returns-clause-faults : goal.returns-clause-faults
returns-clause-faults c = no_other_fault
