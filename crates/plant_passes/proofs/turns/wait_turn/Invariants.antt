use Rattle.plant_passes.specs.Turns.{IsSameSeat, WaitsForTurn}
use Rattle.plant_passes.proofs.Again.{Stays}
use Rattle.plant_passes.proofs.turns.wait_turn.Given as goal

abbrev pub invariant-loop : goal.invariant-loop
invariant-loop g l = IsSameSeat l.initial.seat l.seat × WaitsForTurn l.ticket l.seat.me × Stays l.initial.seat.me.0 l.seat.me.0
