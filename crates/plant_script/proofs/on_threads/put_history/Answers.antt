use Rattle.std.proofs.Common.{◌++◌}
use Rattle.plant_script.proofs.Common.{slice_get, flat_map, history_outputs, operator_name, output_line}
use Rattle.plant_script.proofs.Telling.{entries_more}
use Rattle.plant_script.proofs.on_threads.put_history.Goals as goal

pub loop-entry-preserved : goal.loop-entry-preserved
loop-entry-preserved c =
    let f = output_line (operator_name (slice_get c.args.plant.now.rows c.args.op)) in
    entries_more f c.args.history.now c.loop-entry.entry-index c.entry-item.result c.as_slice.result.now (c.loop-entry.text.items) (c.put_outputs.new.text.items)
    (c.args.text.now.items ++ flat_map f (history_outputs c.args.history.now)) c.loop-entry-test.true c.entry-item.is c.as_slice.ensures c.in_ok-put_outputs.ensures c.loop-entry.invariant
