use Rattle.std.proofs.Common.{◌≡◌, take}
use Rattle.frame_numbers.proofs.renumbering.copy_arrivals.Given as goal

abbrev pub invariant-loop-arrival : goal.invariant-loop-arrival
invariant-loop-arrival l = l.copies.items ≡ take l.arrival-index l.inbox
