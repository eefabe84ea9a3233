use Rattle.std.proofs.Common.{◌≡◌, ◌≤◌, drop}
use Rattle.snapshot_format.specs.Fields.{digits_after}
use Rattle.snapshot_format.proofs.fields.parse_number.Given as goal

abbrev pub invariant-loop-digit : goal.invariant-loop-digit
invariant-loop-digit l = (l.number ≤ l.most) × (digits_after l.most l.number (drop l.digit-index l.field) ≡ digits_after l.most 0 l.field)
