use Rattle.trace_report.proofs.TableLemmas.HandledLemmas.{handled_once}
use Rattle.trace_report.proofs.table.message_laws.handled_once.Goals as goal

pub returns : goal.returns
returns c = handled_once
