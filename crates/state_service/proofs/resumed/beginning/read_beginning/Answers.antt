use Rattle.state_service.proofs.ResumedLemmas.BeginLemmas.{fault_read}
use Rattle.state_service.proofs.resumed.beginning.read_beginning.Goals as goal

pub returns-in-Ok-clause-fault : goal.returns-in-Ok-clause-fault
returns-in-Ok-clause-fault g c = fault_read (g.R.Read.remaining c.args.reader.now) c.in-Ok.text.items c.beginning_of.result c.in-Ok.ensures.text c.beginning_of.ensures.fault
