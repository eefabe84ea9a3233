use Rattle.trace_report.proofs.TableLemmas.StepLemmas.{replay_awaited}
use Rattle.trace_report.proofs.table.pending_flows.replay_is_awaited.Goals as goal

pub returns : goal.returns
returns c = replay_awaited
