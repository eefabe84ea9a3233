use Rattle.std.proofs.Common.{◌≡◌, map, []}
use Rattle.plant_core.proofs.Common.{replicate, HeldHistory}
use Rattle.plant_core.proofs.opening.no_histories.Given as goal

abbrev pub invariant-loop : goal.invariant-loop
invariant-loop l = map (λ (history : HeldHistory). history.entries) l.histories.items ≡ replicate l.counter []
