use Rattle.std.proofs.Common.{take}
use Rattle.admission.specs.Window.{IsWindow}
use Rattle.admission.proofs.id_range.taken_in.Given as goal

abbrev pub invariant-loop-number : goal.invariant-loop-number
invariant-loop-number l = IsWindow (take l.number-index l.used) l.base l.taken
