use Rattle.plant_restart.proofs.NoticeLemmas.{keeps_state, not_noticed}
use Rattle.plant_restart.proofs.laws.change_is_not_noticed.Goals as goal

pub returns-clause-keeps : goal.returns-clause-keeps
returns-clause-keeps c = keeps_state

pub returns-clause-notices : goal.returns-clause-notices
returns-clause-notices c = not_noticed
