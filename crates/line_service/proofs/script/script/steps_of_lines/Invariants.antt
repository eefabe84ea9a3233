use Rattle.std.proofs.Common.{◌≡◌, map}
use Rattle.line_service.proofs.ScriptLemmas.StepsSoFar.{AreStepsSoFar}
use Rattle.line_service.proofs.script.script.steps_of_lines.Given as goal

abbrev pub invariant-loop-line : goal.invariant-loop-line
invariant-loop-line l = record {
  same : l.routes ≡ l.fn.routes;
  so_far : AreStepsSoFar l.fn.routes (map (λ line. line.now) l.lines) l.steps.items l.number l.line-index;
}
