use Rattle.std.proofs.Common.{All, length}
use Rattle.plant_passes.specs.Passes.{IsOfCell}
use Rattle.plant_passes.specs.ViewOf.{cell_of, pass_of}
use Rattle.test_threads.proofs.passes.teams.gather_teams.Given as goal

abbrev pub invariant-loop-team : goal.invariant-loop-team
invariant-loop-team g l = record {
  left : All (λ team. All (λ p. IsOfCell (cell_of l.cell) (pass_of p)) team.passes.items) l.teams.items;
  passes : All (λ p. IsOfCell (cell_of l.cell) (pass_of p)) l.passes.items;
}

abbrev pub decreases-loop-team : goal.decreases-loop-team
decreases-loop-team g l = length l.teams.items
