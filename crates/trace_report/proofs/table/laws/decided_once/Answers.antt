use Rattle.trace_report.proofs.TableLemmas.OnceLemmas.{decided_once}
use Rattle.trace_report.proofs.table.laws.decided_once.Goals as goal

pub returns : goal.returns
returns c = λ op modem said a b v w sound. decided_once op sound.ascending modem said a b v w
