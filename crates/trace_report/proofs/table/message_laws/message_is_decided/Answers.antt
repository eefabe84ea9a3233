use Rattle.trace_report.proofs.TableLemmas.MessageLemmas.{bytes-handled}
use Rattle.trace_report.proofs.table.message_laws.message_is_decided.Goals as goal

pub returns : goal.returns
returns c = bytes-handled
