use Rattle.restart_laws.proofs.NumberLemmas.{not_noticed}
use Rattle.restart_laws.proofs.laws.numbers_are_not_noticed.Goals as goal

pub returns : goal.returns
returns c = not_noticed
