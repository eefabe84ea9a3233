use Rattle.std.proofs.Common.{◌≡◌, map, take}
use Rattle.snapshot_format.specs.States.{saved_flow}
use Rattle.plant_restart.proofs.copying.flows_to_save.Given as goal

abbrev pub invariant-loop-entry : goal.invariant-loop-entry
invariant-loop-entry l = l.saved.items ≡ map saved_flow (take l.entry-index l.flows)
