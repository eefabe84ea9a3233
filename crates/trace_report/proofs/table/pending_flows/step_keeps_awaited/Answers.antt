use Rattle.trace_report.proofs.TableLemmas.StepLemmas.{step_awaited}
use Rattle.trace_report.proofs.table.pending_flows.step_keeps_awaited.Goals as goal

pub returns : goal.returns
returns c = step_awaited
