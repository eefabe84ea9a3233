use Rattle.std.proofs.Common.{◌≡◌, drop, map}
use Rattle.plant_workers.proofs.CellStateLemmas.Common.{least_unfit, cell_book}
use Rattle.plant_workers.proofs.cell_state.judging.least_unfit.Given as goal

abbrev pub invariant-loop-op : goal.invariant-loop-op
invariant-loop-op g l = least_unfit l.unfit l.from l.op (map cell_book (drop l.op l.helds)) (drop l.op l.rows) ≡ least_unfit l.unfit l.from 0 (map cell_book l.helds) l.rows
