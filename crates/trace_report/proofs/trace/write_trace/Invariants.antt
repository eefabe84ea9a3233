use Rattle.std.proofs.Common.{◌≡◌, None, length}
use Rattle.trace_report.proofs.Common.{into_iter_items, into_iter_len, core_view, IsRestAfter}
use Rattle.trace_report.proofs.TracedSoFar.{IsTracedSoFar}
use Rattle.trace_report.proofs.trace.write_trace.Given as goal

abbrev pub invariant-loop-number : goal.invariant-loop-number
invariant-loop-number g l = record {
  next : (goal.iterator-loop-number g).can_next l.number-iterator;
  finite : (goal.iterator-loop-number g).is_finite l.number-iterator;
  count : into_iter_len l.number-iterator ≡ length (into_iter_items l.number-iterator);
  rest : IsRestAfter l.fn.script l.last l.rest;
  traced : IsTracedSoFar (core_view l.fn.core).plant l.fn.script l.fn.steps.items l.last None (core_view l.core) (g.W.Write.contents l.fn.writer) (g.W.Write.contents l.writer) (into_iter_items l.number-iterator);
}
