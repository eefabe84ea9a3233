use Rattle.std.proofs.Common.{◌≡◌, [], map, drop}
use Rattle.line_service.specs.script.Script.{shares_after}
use Rattle.line_service.proofs.script.script.shares_of.Given as goal

abbrev pub invariant-loop-field : goal.invariant-loop-field
invariant-loop-field l = shares_after l.rows.items (drop l.field-index (map (λ field. field.now) l.fields)) ≡ shares_after [] (map (λ field. field.now) l.fields)
