use Rattle.std.proofs.Common.{◌≡◌, ◌++◌, drop}
use Rattle.plant_script.proofs.Common.{slice_get, flat_map, history_outputs, operator_name, output_line}
use Rattle.plant_script.proofs.on_threads.put_history.Given as goal

abbrev pub invariant-loop-entry : goal.invariant-loop-entry
invariant-loop-entry l =
    l.text.items ++ flat_map (output_line (operator_name (slice_get l.plant.rows l.op))) (history_outputs (drop l.entry-index l.history))
    ≡ l.fn.text.items ++ flat_map (output_line (operator_name (slice_get l.plant.rows l.op))) (history_outputs l.history)
