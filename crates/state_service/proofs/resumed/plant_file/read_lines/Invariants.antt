use Rattle.state_service.proofs.ResumedLemmas.Common.{WhereKnown, IsReadingFile}
use Rattle.state_service.proofs.resumed.plant_file.read_lines.Given as goal

abbrev pub invariant-loop : goal.invariant-loop
invariant-loop g l = WhereKnown (g.R.Read.remaining l.fn.reader) (g.R.Read.remaining l.reader)
    (λ input rest. IsReadingFile input rest l.fn.number l.number l.held.bytes.items l.held.is_long l.text.keeping l.text.bytes.items)
