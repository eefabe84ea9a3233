use Rattle.plant_workers.proofs.CellStateLemmas.TakeLemmas.{AreLeft}
use Rattle.plant_workers.proofs.cell_state.taking.behind.Given as goal

abbrev pub invariant-loop-place : goal.invariant-loop-place
invariant-loop-place l = AreLeft l.history l.taken l.place l.left
