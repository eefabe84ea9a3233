use Rattle.plant_passes.specs.Passes.{IsOfCell}
use Rattle.plant_passes.specs.ViewOf.{cell_of, pass_of}
use Rattle.test_threads.proofs.passes.teams.call_on.Given as goal

abbrev pub invariant-loop-turn : goal.invariant-loop-turn
invariant-loop-turn g l = IsOfCell (cell_of l.cell) (pass_of l.pass)
