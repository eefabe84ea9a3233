use Rattle.operator_model.proofs.SliceLemmas.{run-frames, run-in_force, replay-in_force}
use Rattle.operator_model.proofs.frame_laws.frames_are_shares.Goals as goal

pub returns : goal.returns
returns c = record { frames = run-frames; in_force = run-in_force; replayed = replay-in_force }
