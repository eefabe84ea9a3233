use Rattle.std.proofs.Common.{◌≡◌, ◌++◌, List, take, drop}
use Rattle.slice_table.proofs.Common.{Modem, Adds, Lists, first_again}
use Rattle.slice_table.proofs.roster.add_modems.Given as goal

abbrev pub invariant-loop-modem : goal.invariant-loop-modem
invariant-loop-modem l = record {
  added : Adds l.initial.places l.place (take l.modem-index l.modems) l.places;
  left : (before : List Modem) → Lists l.initial.places before → first_again (before ++ take l.modem-index l.modems) (drop l.modem-index l.modems) ≡ first_again before l.modems;
}
