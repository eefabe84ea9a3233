use Rattle.std.proofs.Common.{◌≡◌, ◌++◌, drop}
use Rattle.plant_workers.proofs.ReceiptsLemmas.Common.{frames_of, history_outputs, frames_with_numbers}
use Rattle.plant_workers.proofs.receipts.own_frames.frames_in.Given as goal

abbrev pub invariant-loop-entry : goal.invariant-loop-entry
invariant-loop-entry l = frames_with_numbers l.frames.items ++ frames_of (history_outputs (drop l.entry-index l.history)) ≡ frames_of (history_outputs l.history)
