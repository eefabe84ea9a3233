use Rattle.restart_laws.proofs.ProcessLemmas.{are_changes, rows_go_through, not_noticed}
use Rattle.restart_laws.proofs.laws.restart_is_not_noticed.Goals as goal

pub returns-clause-changes : goal.returns-clause-changes
returns-clause-changes c = are_changes

pub returns-clause-rows : goal.returns-clause-rows
returns-clause-rows c = rows_go_through

pub returns-clause-notices : goal.returns-clause-notices
returns-clause-notices c = not_noticed
