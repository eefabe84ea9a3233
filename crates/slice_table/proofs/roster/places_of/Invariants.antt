use Rattle.std.proofs.Common.{◌≡◌, [], take, drop}
use Rattle.slice_table.proofs.Common.{all_modems, Finds, first_again}
use Rattle.slice_table.proofs.roster.places_of.Given as goal

abbrev pub invariant-loop-place : goal.invariant-loop-place
invariant-loop-place l = record {
  found : Finds (take l.place l.rows) l.places;
  left : first_again (all_modems (take l.place l.rows)) (all_modems (drop l.place l.rows)) ≡ first_again [] (all_modems l.rows);
}
