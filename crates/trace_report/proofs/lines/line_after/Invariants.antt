use Rattle.trace_report.specs.Quotes.{IsRestAfter}
use Rattle.trace_report.proofs.lines.line_after.Given as goal

abbrev pub invariant-loop-place : goal.invariant-loop-place
invariant-loop-place l = IsRestAfter l.text l._place l.rest
