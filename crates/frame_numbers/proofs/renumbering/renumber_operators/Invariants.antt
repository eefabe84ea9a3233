use Rattle.std.proofs.Common.{◌≡◌, map, take}
use Rattle.frame_numbers.specs.Numbering.{operator_renumbered}
use Rattle.frame_numbers.proofs.renumbering.renumber_operators.Given as goal

abbrev pub invariant-loop-saved : goal.invariant-loop-saved
invariant-loop-saved l = l.others.items ≡ map (operator_renumbered l.units l.from l.to) (take l.saved-index l.operators)
