use Rattle.std.proofs.Common.{◌≡◌, length, map, take}
use Rattle.run_model.specs.OwnSteps.{slice_of}
use Rattle.plant_workers.proofs.audit.assembly.write_slices.Given as goal

abbrev pub invariant-loop-op : goal.invariant-loop-op
invariant-loop-op l = record {
  many : length l.slices ≡ length l.rows;
  written : take l.op l.slices ≡ map slice_of (take l.op l.rows);
}
