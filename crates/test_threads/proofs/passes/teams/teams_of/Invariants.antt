use Rattle.std.proofs.Common.{All}
use Rattle.plant_passes.specs.Passes.{IsOfCell}
use Rattle.plant_passes.specs.ViewOf.{cell_of, pass_of}
use Rattle.test_threads.proofs.passes.teams.teams_of.Given as goal

abbrev pub invariant-loop : goal.invariant-loop
invariant-loop g l = record {
  left : All (λ p. IsOfCell (cell_of l.cell) (pass_of p)) l.passes.items;
  made : All (λ team. All (λ p. IsOfCell (cell_of l.cell) (pass_of p)) team.passes.items) l.made.items;
}
