use Rattle.line_service.proofs.Common.{WhereKnown, IsReadSoFar}
use Rattle.line_service.proofs.front.read_to_bar.Given as goal

abbrev pub invariant-loop : goal.invariant-loop
invariant-loop g l =
    WhereKnown (g.R.Read.remaining l.fn.reader) (g.R.Read.remaining l.reader) (λ input rest. IsReadSoFar input rest l.text.items l.line.items)
