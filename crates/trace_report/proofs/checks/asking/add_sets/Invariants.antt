use Rattle.std.proofs.Common.{◌≡◌, ◌++◌, take, map, filter}
use Rattle.trace_report.specs.checks.Asking.{set_given, gives_for}
use Rattle.trace_report.proofs.checks.asking.add_sets.Given as goal

abbrev pub invariant-loop-encoding : goal.invariant-loop-encoding
invariant-loop-encoding l = l.sets.items ≡ l.initial.sets.items ++ map (set_given l.consts) (filter (gives_for l.for_use l.consts) (take l.encoding-index l.encodings))
