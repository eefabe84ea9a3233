use Rattle.std.proofs.Common.{◌∙◌, Some, ap, sym}
use Rattle.trace_report.proofs.ChecksLemmas.Common.{said_by, Check}
use Rattle.trace_report.proofs.ChecksLemmas.FirstLemmas.{found_at_last}
use Rattle.trace_report.proofs.checks.operator_snapshot.OperatorSnapshot.first_that_holds.Goals as goal

pub returns : goal.returns
returns c =
    found_at_last c.args.self.now c.args.modem (said_by c.args.request.now) c.copied.result (c.copied.ensures ∙ c.first_of.ensures)
    ∙ ap (λ (check : Check). Some check) (sym c.unwrap_or.ensures)
