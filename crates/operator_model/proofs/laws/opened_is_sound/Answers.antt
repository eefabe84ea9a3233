use Rattle.operator_model.proofs.OpenedLemmas.{opened_sound}
use Rattle.operator_model.proofs.laws.opened_is_sound.Goals as goal

pub returns : goal.returns
returns c = opened_sound
