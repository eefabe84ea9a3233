use Rattle.std.proofs.Common.{◌≡◌}
use Rattle.plant_passes.specs.Turns.{IsSameSeat}
use Rattle.plant_passes.proofs.turns.draw.Given as goal

abbrev pub invariant-loop : goal.invariant-loop
invariant-loop g l = IsSameSeat l.initial.seat l.seat × (l.seat.me ≡ l.initial.seat.me)
