use Rattle.std.proofs.Common.{◌≡◌, take}
use Rattle.plant_workers.proofs.finishing.copies_of.Given as goal

abbrev pub invariant-loop-made : goal.invariant-loop-made
invariant-loop-made l = l.copies.items ≡ take l.made-index l.maps
