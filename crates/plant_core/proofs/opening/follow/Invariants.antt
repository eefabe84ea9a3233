use Rattle.std.proofs.Common.{◌≡◌, take, map}
use Rattle.plant_core.proofs.opening.follow.Given as goal

abbrev pub invariant-loop-at : goal.invariant-loop-at
invariant-loop-at g l = map (λ ranking. ranking.policy) (take l.at l.rankings) ≡ map (λ row. row.policy) (take l.at l.rows)
