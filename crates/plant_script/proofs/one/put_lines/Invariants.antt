use Rattle.std.proofs.Common.{◌≡◌, ◌++◌, take}
use Rattle.plant_script.specs.One.{text_of_outputs}
use Rattle.plant_script.proofs.one.put_lines.Given as goal

abbrev pub invariant-loop-output : goal.invariant-loop-output
invariant-loop-output l = l.text.items ≡ l.fn.text.items ++ text_of_outputs (take l.output-index l.outputs)
