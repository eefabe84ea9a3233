use Rattle.std.proofs.Common.{◌≡◌, drop}
use Rattle.run_model.specs.IsStateAfter.{frames_of}
use Rattle.plant_workers.proofs.cell_state.collecting.first_frame.Given as goal

abbrev pub invariant-loop-output : goal.invariant-loop-output
invariant-loop-output l = frames_of (drop l.output-index l.outputs) ≡ frames_of l.outputs
