use Rattle.state_service.proofs.ResumedLemmas.Common.{IsReachableFromStart, live_view, WhereKnown, lines_left, resumed_service, AreServedSoFar}
use Rattle.state_service.proofs.resumed.serving.serve_begun.Given as goal

abbrev pub invariant-loop : goal.invariant-loop
invariant-loop g l = record {
  reached : IsReachableFromStart (live_view l.service.core);
  served : WhereKnown (g.R.Read.remaining l.fn.reader) (g.R.Read.remaining l.reader)
      (λ input rest. AreServedSoFar (resumed_service l.fn.begun.plant l.fn.begun.saved) input (lines_left l.service.after rest) l.service.number (live_view l.service.core) l.service.file
      (g.W.Write.contents l.fn.writer) (g.W.Write.contents l.writer));
}
