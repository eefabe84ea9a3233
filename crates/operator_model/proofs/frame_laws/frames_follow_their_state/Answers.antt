use Rattle.operator_model.proofs.SliceLemmas.{state-frames, state-in_force}
use Rattle.operator_model.proofs.frame_laws.frames_follow_their_state.Goals as goal

pub returns : goal.returns
returns c = record { frames = state-frames; in_force = state-in_force }
