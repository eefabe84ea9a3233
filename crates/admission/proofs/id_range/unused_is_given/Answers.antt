use Rattle.admission.proofs.FreeLemmas.{unused_given}
use Rattle.admission.proofs.id_range.unused_is_given.Goals as goal

pub returns : goal.returns
returns c = unused_given
