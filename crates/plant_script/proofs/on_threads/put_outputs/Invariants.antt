use Rattle.std.proofs.Common.{◌≡◌, ◌++◌, take}
use Rattle.plant_script.proofs.Common.{slice_get, flat_map, operator_name, output_line}
use Rattle.plant_script.proofs.on_threads.put_outputs.Given as goal

abbrev pub invariant-loop-output : goal.invariant-loop-output
invariant-loop-output l = l.text.items ≡ l.fn.text.items ++ flat_map (output_line (operator_name (slice_get l.plant.rows l.op))) (take l.output-index l.outputs)
