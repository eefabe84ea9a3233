use Rattle.line_service.proofs.Common.{WhereKnown, IsPartRead}
use Rattle.line_service.proofs.reading.read_line.Given as goal

abbrev pub invariant-loop : goal.invariant-loop
invariant-loop g l = WhereKnown (g.R.Read.remaining l.fn.reader) (g.R.Read.remaining l.reader) (λ input rest. IsPartRead input rest l.held.bytes.items l.held.is_long)
