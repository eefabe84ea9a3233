use Rattle.std.proofs.Common.{◌≡◌, ◌++◌, take}
use Rattle.snapshot_format.proofs.Common.{flat_map, string_bytes, operator_text}
use Rattle.snapshot_format.proofs.operator_text.put_operators.Given as goal

abbrev pub invariant-loop-operator : goal.invariant-loop-operator
invariant-loop-operator l = string_bytes l.text ≡ string_bytes l.fn.text ++ flat_map operator_text (take l.operator-index l.operators)
