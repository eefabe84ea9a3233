use Rattle.admission.proofs.FreeLemmas.{least_free_iff}
use Rattle.admission.proofs.id_range.least_free_is_given.Goals as goal

pub returns : goal.returns
returns c = least_free_iff
