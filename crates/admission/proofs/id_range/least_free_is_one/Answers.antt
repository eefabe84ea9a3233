use Rattle.admission.proofs.FreeLemmas.{least_free_one}
use Rattle.admission.proofs.id_range.least_free_is_one.Goals as goal

pub returns : goal.returns
returns c = least_free_one
