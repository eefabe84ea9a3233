use Rattle.operator_model.proofs.UndoLemmas.{flows_left_same}
use Rattle.operator_model.proofs.frame_laws.given_up_have_no_grants.Goals as goal

pub returns : goal.returns
returns c = flows_left_same
