use Rattle.std.proofs.Common.{◌≡◌, ◌++◌, drop}
use Rattle.plant_workers.proofs.ReceiptsLemmas.Common.{frames_of, frames_with_numbers}
use Rattle.plant_workers.proofs.receipts.own_frames.push_frames.Given as goal

abbrev pub invariant-loop-output : goal.invariant-loop-output
invariant-loop-output l = frames_with_numbers l.frames.items ++ frames_of (drop l.output-index l.outputs) ≡ frames_with_numbers l.initial.frames.items ++ frames_of l.outputs
