use Rattle.std.proofs.Common.{◌≡◌, drop}
use Rattle.plant_core.proofs.LiveLemmas.Common.{slice_get, frames_of}
use Rattle.plant_core.proofs.live.acting.frame_copy.Given as goal

abbrev pub invariant-loop-output : goal.invariant-loop-output
invariant-loop-output l = slice_get (frames_of (drop l.output-index l.outputs)) 0 ≡ slice_get (frames_of l.outputs) 0
