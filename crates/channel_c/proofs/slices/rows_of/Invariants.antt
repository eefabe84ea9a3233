use Rattle.std.proofs.Common.{◌≡◌, map, take}
use Rattle.channel_c.specs.Answers.{row_as}
use Rattle.channel_c.proofs.slices.rows_of.Given as goal

abbrev pub invariant-loop-row : goal.invariant-loop-row
invariant-loop-row l = l.made.items ≡ map row_as (take l.row-index l.rows)
