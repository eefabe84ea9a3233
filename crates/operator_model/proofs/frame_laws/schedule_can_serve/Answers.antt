use Rattle.operator_model.proofs.ServeLemmas.{can_ascend, can_pass, can_fit}
use Rattle.operator_model.proofs.frame_laws.schedule_can_serve.Goals as goal

pub returns : goal.returns
returns c = record { ascending = can_ascend; past = can_pass; within = can_fit }
