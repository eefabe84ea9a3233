use Rattle.std.proofs.Common.{◌≡◌, take}
use Rattle.plant.proofs.provision.copy_provisions.Given as goal

abbrev pub invariant-loop-provision : goal.invariant-loop-provision
invariant-loop-provision l = l.copies.items ≡ take l.provision-index l.provisions
