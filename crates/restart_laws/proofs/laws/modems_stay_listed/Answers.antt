use Rattle.restart_laws.proofs.ReadyLemmas.{modems_begin, modems_stay, modems_on}
use Rattle.restart_laws.proofs.NumberLemmas.{numbers_keep_modems}
use Rattle.restart_laws.proofs.laws.modems_stay_listed.Goals as goal

pub returns-clause-begins : goal.returns-clause-begins
returns-clause-begins c = modems_begin

pub returns-clause-stays : goal.returns-clause-stays
returns-clause-stays c = modems_stay

pub returns-clause-goes_on : goal.returns-clause-goes_on
returns-clause-goes_on c = modems_on

pub returns-clause-numbers : goal.returns-clause-numbers
returns-clause-numbers c = numbers_keep_modems
