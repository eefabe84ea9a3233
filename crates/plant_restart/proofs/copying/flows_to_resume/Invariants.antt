use Rattle.std.proofs.Common.{◌≡◌, map, take}
use Rattle.snapshot_format.specs.States.{sfid_with_flow}
use Rattle.plant_restart.proofs.copying.flows_to_resume.Given as goal

abbrev pub invariant-loop-entry : goal.invariant-loop-entry
invariant-loop-entry l = l.flows.items ≡ map sfid_with_flow (take l.entry-index l.saved)
