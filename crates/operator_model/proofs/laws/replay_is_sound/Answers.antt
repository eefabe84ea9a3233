use Rattle.operator_model.proofs.StepLemmas.{replay_sound}
use Rattle.operator_model.proofs.laws.replay_is_sound.Goals as goal

pub returns : goal.returns
returns c = λ consts row history state is some replay. replay_sound consts row history state is some replay
