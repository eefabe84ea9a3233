use Rattle.test_threads.proofs.passes.cells.open_cell.Goals as goal

pub returns : goal.returns
returns g c = c.in-Ok.ensures.of
