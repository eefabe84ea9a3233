use Rattle.transactions.proofs.LifeLemmas.{WaitsInVain-begun, IsOnlyHeld-held_entry}
use Rattle.transactions.proofs.life.timers_keep_time.Goals as goal

pub returns-clause-waiting : goal.returns-clause-waiting
returns-clause-waiting c = WaitsInVain-begun

pub returns-clause-held : goal.returns-clause-held
returns-clause-held c = IsOnlyHeld-held_entry
