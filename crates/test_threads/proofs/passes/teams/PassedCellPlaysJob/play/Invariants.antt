use Rattle.std.proofs.Common.{All}
use Rattle.plant_passes.specs.Passes.{IsOfCell}
use Rattle.plant_passes.specs.ViewOf.{cell_of, pass_of}
use Rattle.test_threads.proofs.passes.teams.PassedCellPlaysJob.play.Given as goal

abbrev pub invariant-loop-pass : goal.invariant-loop-pass
invariant-loop-pass g l = record {
  left : All (λ p. IsOfCell (cell_of l.self) (pass_of p)) l.team.passes.items;
  played : All (λ p. IsOfCell (cell_of l.self) (pass_of p)) l.played.items;
}

abbrev pub decreases-loop-pass : goal.decreases-loop-pass
decreases-loop-pass g l = goal.left-loop-pass g l
