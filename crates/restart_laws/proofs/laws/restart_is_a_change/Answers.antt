use Rattle.restart_laws.proofs.ReadyLemmas.{change}
use Rattle.restart_laws.proofs.laws.restart_is_a_change.Goals as goal

pub returns : goal.returns
returns c = change
