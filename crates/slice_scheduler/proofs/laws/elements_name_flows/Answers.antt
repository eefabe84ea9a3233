use Rattle.slice_scheduler.proofs.NamedLemmas.{each-span, each-pending}
use Rattle.slice_scheduler.proofs.laws.elements_name_flows.Goals as goal

pub returns : goal.returns
returns c = record { spans = each-span; pending = each-pending }
