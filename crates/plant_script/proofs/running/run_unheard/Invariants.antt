use Rattle.std.proofs.Common.{◌≡◌, [], length}
use Rattle.plant_script.proofs.Common.{into_iter_items, into_iter_len, core_view}
use Rattle.plant_script.proofs.HalfDone.{IsHalfDone}
use Rattle.plant_script.proofs.running.run_unheard.Given as goal

abbrev pub invariant-loop-number : goal.invariant-loop-number
invariant-loop-number g l = record {
  next : (goal.iterator-loop-number g).can_next l.number-iterator;
  finite : (goal.iterator-loop-number g).is_finite l.number-iterator;
  count : into_iter_len l.number-iterator ≡ length (into_iter_items l.number-iterator);
  half : IsHalfDone (core_view l.fn.core).plant l.fn.lines.items (λ told. []) (core_view l.core) [] (into_iter_items l.number-iterator);
}
