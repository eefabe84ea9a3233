use Rattle.line_service.proofs.Common.{Start, PlantFields, Out, Step, IsAfterFrom, IsReachableFromStart, live_view, lines_of, WhereKnown, IsHeld, IsServedSoFar}
use Rattle.std.proofs.Common.{List, []}
use Rattle.line_service.proofs.serving.serve.Given as goal

abbrev pub invariant-loop : goal.invariant-loop
invariant-loop g l = record {
  reached : IsReachableFromStart (live_view l.core);
  empty : IsHeld l.held.bytes.items l.held.is_long [];
  served : (plant : PlantFields) (start : Start) (before : List Step) (shown : List Out) → IsAfterFrom plant start before shown (live_view l.fn.core)
      → WhereKnown (g.R.Read.remaining l.fn.reader) (g.R.Read.remaining l.reader)
      (λ input rest. IsServedSoFar plant start before shown input (lines_of rest) l.number (live_view l.core) (g.W.Write.contents l.fn.writer) (g.W.Write.contents l.writer));
}
