use Rattle.std.proofs.Common.{◌≡◌, take}
use Rattle.transactions.specs.Timers.{resent_in, given_up_in}
use Rattle.transactions.proofs.tick.due_in.Given as goal

abbrev pub invariant-loop-entry : goal.invariant-loop-entry
invariant-loop-entry l = (l.resends.items ≡ resent_in (take l.entry-index l.entries)) × (l.given_ups.items ≡ given_up_in (take l.entry-index l.entries))
