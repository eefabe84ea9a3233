use Rattle.std.proofs.Common.{◌≡◌, drop}
use Rattle.plant_core.specs.live.Reslicing.{least_meeting}
use Rattle.plant_core.proofs.live.judging.least_meeting.Given as goal

abbrev pub invariant-loop-a : goal.invariant-loop-a
invariant-loop-a l = least_meeting l.a (drop l.a l.rows) ≡ least_meeting 0 l.rows
