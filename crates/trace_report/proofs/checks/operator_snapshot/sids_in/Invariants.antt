use Rattle.std.proofs.Common.{◌≡◌, take, map, filter}
use Rattle.trace_report.proofs.ChecksLemmas.ListLemmas.{has_sid, sid_in}
use Rattle.trace_report.proofs.checks.operator_snapshot.sids_in.Given as goal

abbrev pub invariant-loop-sfid : goal.invariant-loop-sfid
invariant-loop-sfid l = l.sids.items ≡ map sid_in (filter has_sid (take l._sfid-index l.flows))
