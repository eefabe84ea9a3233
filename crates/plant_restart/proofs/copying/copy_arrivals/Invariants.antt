use Rattle.std.proofs.Common.{◌≡◌, take}
use Rattle.plant_restart.proofs.copying.copy_arrivals.Given as goal

abbrev pub invariant-loop-arrival : goal.invariant-loop-arrival
invariant-loop-arrival l = l.copies.items ≡ take l.arrival-index l.inbox
