use Rattle.std.proofs.Common.{◌≡◌, ◌++◌, take, map, filter}
use Rattle.trace_report.proofs.ChecksLemmas.Common.{said_by, subject_of, is_named_in}
use Rattle.trace_report.proofs.checks.asking.add_named.Given as goal

abbrev pub invariant-loop-sfid : goal.invariant-loop-sfid
invariant-loop-sfid l = l.subjects.items ≡ l.initial.subjects.items ++ map subject_of (filter (is_named_in (said_by l.request)) (take l.sfid-index l.flows))
