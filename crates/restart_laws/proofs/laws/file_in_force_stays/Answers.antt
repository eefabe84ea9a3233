use Rattle.restart_laws.proofs.FileLemmas.{begins, stays}
use Rattle.restart_laws.proofs.laws.file_in_force_stays.Goals as goal

pub returns-clause-begins : goal.returns-clause-begins
returns-clause-begins c = begins

pub returns-clause-stays : goal.returns-clause-stays
returns-clause-stays c = stays
