use Rattle.operator_model.proofs.FrameLemmas.{repeat_told}
use Rattle.operator_model.proofs.laws.repeat_changes_nothing.Goals as goal

pub returns : goal.returns
returns c = repeat_told
