use Rattle.std.proofs.Common.{◌∙◌, List, ℕ, map, filter, ap, arith}
use Rattle.trace_report.proofs.ChecksLemmas.Common.{take_all, Flow}
use Rattle.trace_report.proofs.ChecksLemmas.ListLemmas.{has_sid, sid_in, sids_chosen}
use Rattle.trace_report.proofs.checks.operator_snapshot.sids_in.Goals as goal

-- src/operator_snapshot.rt:46:1
pub returns : goal.returns
returns c =
    c.loop-sfid.invariant
    ∙ (ap (λ (flows : List (ℕ × Flow)). map sid_in (filter has_sid flows)) (take_all c.loop-sfid._sfid-index c.args.flows.now (omega (arith, c.loop-sfid-test.false))) ∙ sids_chosen c.args.flows.now)
