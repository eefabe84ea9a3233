use Rattle.std.proofs.Common.{◌≡◌, map, take}
use Rattle.run_model.specs.OwnSteps.{slice_of}
use Rattle.plant_workers.proofs.audit.assembly.slices_of.Given as goal

abbrev pub invariant-loop-row : goal.invariant-loop-row
invariant-loop-row l = l.slices.items ≡ map slice_of (take l.row-index l.rows)
