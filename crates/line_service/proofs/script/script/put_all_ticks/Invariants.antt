use Rattle.std.proofs.Common.{◌≡◌, ◌++◌, drop}
use Rattle.line_service.specs.script.Script.{all_ticks}
use Rattle.line_service.proofs.script.script.put_all_ticks.Given as goal

abbrev pub invariant-loop-op : goal.invariant-loop-op
invariant-loop-op l = l.steps.items ++ all_ticks l.number (drop l.op l.rows) l.op ≡ l.fn.steps.items ++ all_ticks l.number l.rows 0
