use Rattle.std.proofs.Common.{take}
use Rattle.plant_restart.specs.Restarted.{HasNoRow}
use Rattle.plant_restart.proofs.restoring.has_no_row.Given as goal

abbrev pub invariant-loop-row : goal.invariant-loop-row
invariant-loop-row l = HasNoRow (take l.row-index l.rows) l.name
