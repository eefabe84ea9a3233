use Rattle.std.proofs.Common.{map}
use Rattle.line_service.proofs.ScriptLemmas.SaidSoFar.{IsSaidSoFar}
use Rattle.line_service.proofs.script.lines.messages_of.Given as goal

abbrev pub invariant-loop-line : goal.invariant-loop-line
invariant-loop-line l = IsSaidSoFar (map (λ line. line.now) l.lines) l.messages.items l.number l.line-index
