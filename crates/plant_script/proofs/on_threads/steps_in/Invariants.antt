use Rattle.std.proofs.Common.{◌≡◌, take}
use Rattle.line_service.specs.script.Script.{steps_without_numbers}
use Rattle.plant_script.proofs.on_threads.steps_in.Given as goal

abbrev pub invariant-loop-line : goal.invariant-loop-line
invariant-loop-line l = l.steps.items ≡ steps_without_numbers (take l.line-index l.lines)
