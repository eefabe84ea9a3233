use Rattle.std.proofs.Common.{take}
use Rattle.plant_script.proofs.Common.{core_view, AreCaptured}
use Rattle.plant_script.proofs.capturing.run_captured.Given as goal

abbrev pub invariant-loop-line : goal.invariant-loop-line
invariant-loop-line g l = AreCaptured (core_view l.fn.core).plant (take l.line-index l.lines) (core_view l.core) l.capture
