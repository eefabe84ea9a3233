use Rattle.std.proofs.Common.{All, take}
use Rattle.plant_core.specs.live.LiveOperator.{IsSoundAt, IsAtFrame, WaitsFrom}
use Rattle.plant_core.proofs.live.resuming.go_together.Given as goal

abbrev pub invariant-loop-op : goal.invariant-loop-op
invariant-loop-op l = record {
  sound : All IsSoundAt (take l.op l.lives);
  frames : All (IsAtFrame l.frame) (take l.op l.lives);
  alike : All (WaitsFrom l.from) (take l.op l.lives);
}
