use Rattle.std.proofs.Common.{◌≡◌}
use Rattle.plant_core.specs.live.LiveOperator.{row_of}
use Rattle.test_cores.proofs.resuming.do_actions.Given as goal

abbrev pub invariant-loop-call : goal.invariant-loop-call
invariant-loop-call l = record {
  row : row_of l.machine ≡ row_of l.fn.machine;
  consts : l.machine.sound.consts ≡ l.fn.machine.sound.consts;
}
