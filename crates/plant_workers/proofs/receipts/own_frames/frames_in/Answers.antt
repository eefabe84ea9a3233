use Rattle.plant_workers.proofs.ReceiptsLemmas.FrameLemmas.{frames_more}
use Rattle.plant_workers.proofs.receipts.own_frames.frames_in.Goals as goal

pub loop-entry-preserved : goal.loop-entry-preserved
loop-entry-preserved c =
    frames_more c.args.history.now c.loop-entry.entry-index c.entry-item.result c.as_slice.result.now c.loop-entry.frames.items c.push_frames.new.frames.items
    c.loop-entry-test.true c.entry-item.is c.as_slice.ensures c.in_ok-push_frames.ensures c.loop-entry.invariant
