use Rattle.line_service.specs.Lines.{IsPartRead}
use Rattle.line_service.proofs.ReadLemmas.{begun}
use Rattle.line_service.proofs.ServiceLemmas.{known_same}
use Rattle.line_service.proofs.reading.read_line.Goals as goal

pub loop-init : goal.loop-init
loop-init g c =
    let held = c.args.held.now in
    known_same (g.R.Read.remaining c.args.reader.now) (λ input rest. IsPartRead input rest held.bytes.items held.is_long)
    (λ input. begun input held.bytes.items held.is_long c.requires)
