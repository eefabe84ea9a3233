use Rattle.std.proofs.Common.{◌≡◌, map, take}
use Rattle.plant_restart.proofs.Common.{live_view, saved_book}
use Rattle.plant_restart.proofs.saving.states_to_save.Given as goal

abbrev pub invariant-loop-op : goal.invariant-loop-op
invariant-loop-op l = l.operators.items ≡ map saved_book (take l.op (live_view l.core).books)
