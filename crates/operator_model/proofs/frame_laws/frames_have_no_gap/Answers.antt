use Rattle.operator_model.proofs.FrameLemmas.{run_puts}
use Rattle.operator_model.proofs.frame_laws.frames_have_no_gap.Goals as goal

pub returns : goal.returns
returns c = record {
  numbers = λ op actions. (run_puts op.consts op.row op.state actions).numbers;
  next = λ op actions. (run_puts op.consts op.row op.state actions).next;
}
