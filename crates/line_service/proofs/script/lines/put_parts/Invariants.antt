use Rattle.std.proofs.Common.{◌≡◌, ◌++◌, [], map, length}
use Rattle.line_service.specs.script.Lines.{parts_from}
use Rattle.line_service.proofs.script.lines.put_parts.Given as goal

abbrev pub invariant-loop-place : goal.invariant-loop-place
invariant-loop-place l = map (λ part. part.now) l.parts.items ++ parts_from l.mark [] l.rest ≡ parts_from l.mark [] l.input

abbrev pub decreases-loop-place : goal.decreases-loop-place
decreases-loop-place l = length l.rest
