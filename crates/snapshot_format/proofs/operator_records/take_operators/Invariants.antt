use Rattle.std.proofs.Common.{◌≡◌, ◌-◌, []}
use Rattle.snapshot_format.proofs.Common.{take_items, take_operator, operator_follows}
use Rattle.snapshot_format.proofs.operator_records.take_operators.Given as goal

abbrev pub invariant-loop : goal.invariant-loop
invariant-loop l = take_items take_operator operator_follows (l.count - l.counter) l.operators.items l.rest ≡ take_items take_operator operator_follows l.count [] l.bytes
