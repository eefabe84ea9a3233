use Rattle.line_service.specs.Bytes.{WhereKnown}
use Rattle.program_runner.proofs.HeadLemmas.{IsHeadUpTo}
use Rattle.program_runner.proofs.head_reading.read_head.Given as goal

abbrev pub invariant-loop-expected : goal.invariant-loop-expected
invariant-loop-expected g l = record {
  kept : WhereKnown (g.R.Read.remaining l.fn.reader) (g.R.Read.remaining l.reader) (IsHeadUpTo l.expected-index l.head.items);
}
