use Rattle.trace_report.proofs.TableLemmas.RequestLemmas.{request-decided}
use Rattle.trace_report.proofs.table.laws.verdict_is_decided.Goals as goal

pub returns : goal.returns
returns c = request-decided
