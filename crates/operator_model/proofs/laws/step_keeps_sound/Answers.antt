use Rattle.operator_model.proofs.StepLemmas.{step_sound}
use Rattle.operator_model.proofs.laws.step_keeps_sound.Goals as goal

pub returns : goal.returns
returns c = λ op action sound allowed. step_sound op sound action allowed
