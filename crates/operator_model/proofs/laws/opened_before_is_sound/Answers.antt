use Rattle.operator_model.proofs.OpenedBeforeLemmas.{opened_before_sound}
use Rattle.operator_model.proofs.laws.opened_before_is_sound.Goals as goal

pub returns : goal.returns
returns c = opened_before_sound
