use Rattle.std.proofs.Common.{take}
use Rattle.slice_table.proofs.Common.{Lists}
use Rattle.slice_table.proofs.own_modems.places_in_list.Given as goal

abbrev pub invariant-loop-place : goal.invariant-loop-place
invariant-loop-place l = Lists l.places (take l.place l.modems)
