use Rattle.line_service.proofs.Common.{Start, into_iter_items, into_iter_len, PlantFields, Out, Step, IsAfterFrom, live_view, IsHalfDone}
use Rattle.std.proofs.Common.{◌≡◌, length, List}
use Rattle.line_service.proofs.answering.run_steps_in.Given as goal

abbrev pub invariant-loop-number : goal.invariant-loop-number
invariant-loop-number g l = record {
  next : (goal.iterator-loop-number g).can_next l.number-iterator;
  finite : (goal.iterator-loop-number g).is_finite l.number-iterator;
  count : into_iter_len l.number-iterator ≡ length (into_iter_items l.number-iterator);
  half : (plant : PlantFields) (start : Start) (before : List Step) (shown : List Out) → IsAfterFrom plant start before shown (live_view l.fn.core)
      → IsHalfDone plant start before shown l.fn.steps.items (live_view l.core) (g.W.Write.contents l.fn.writer) (g.W.Write.contents l.writer) (into_iter_items l.number-iterator);
}
