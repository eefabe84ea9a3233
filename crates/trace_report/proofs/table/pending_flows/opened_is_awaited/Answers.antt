use Rattle.trace_report.proofs.TableLemmas.StepLemmas.{opened_awaited}
use Rattle.trace_report.proofs.table.pending_flows.opened_is_awaited.Goals as goal

pub returns : goal.returns
returns c = opened_awaited
