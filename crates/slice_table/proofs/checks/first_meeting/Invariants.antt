use Rattle.std.proofs.Common.{◌≡◌, drop}
use Rattle.slice_table.specs.Checks.{meets, first_pair}
use Rattle.slice_table.proofs.checks.first_meeting.Given as goal

abbrev pub invariant-loop-place : goal.invariant-loop-place
invariant-loop-place l = first_pair (meets l.apart) (drop l.place l.rows) ≡ first_pair (meets l.apart) l.rows
