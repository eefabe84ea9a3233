use Rattle.std.proofs.Common.{length}
use Rattle.state_service.proofs.durable.lines.split_lines.Given as goal

abbrev pub decreases-loop-place : goal.decreases-loop-place
decreases-loop-place l = length l.rest
