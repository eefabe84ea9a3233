use Rattle.std.proofs.Common.{◌≡◌, ◌≤◌, drop}
use Rattle.line_service.specs.script.Fields.{number_after}
use Rattle.line_service.proofs.script.fields.decimal_in.Given as goal

abbrev pub invariant-loop-digit : goal.invariant-loop-digit
invariant-loop-digit l = (l.number ≤ l.most) × (number_after l.most l.number (drop l.digit-index l.text) ≡ number_after l.most 0 l.text)
