use Rattle.std.proofs.Common.{◌≡◌, ◌+◌, ◌-◌, ◌≤◌, true, length, drop}
use Rattle.line_service.specs.script.Input.{before_bar}
use Rattle.line_service.proofs.script.input.before_bar.Given as goal

-- no line of three dashes begins before the place, where a line begins or the input ends
abbrev pub invariant-loop-start : goal.invariant-loop-start
invariant-loop-start l = record {
  inside : l.start ≤ length l.input;
  before : l.start + before_bar true (drop l.start l.input) ≡ before_bar true l.input;
}

abbrev pub decreases-loop-start : goal.decreases-loop-start
decreases-loop-start l = length l.input - l.start
