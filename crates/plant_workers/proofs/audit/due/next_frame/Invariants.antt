use Rattle.std.proofs.Common.{◌≡◌}
use Rattle.plant_core.specs.Waiting.{waiting_in}
use Rattle.plant_workers.proofs.audit.due.next_frame.Given as goal

abbrev pub invariant-loop-place : goal.invariant-loop-place
invariant-loop-place l = waiting_in l.history l.place ≡ waiting_in l.history l.from
