use Rattle.std.proofs.Common.{IfOk, IfSome, subst}
use Rattle.state_service.specs.declared.resumed.last_state.AtEnd.TheVariants as asked
use Rattle.state_service.proofs.ResumedLemmas.Common.{BegunEnd, IsBeginningRead, EndsBegun}
use Rattle.state_service.proofs.ResumedLemmas.ServedLemmas.{begun_served}
use Rattle.state_service.proofs.resumed.serving.resume.Goals as goal

pub returns-in-Served : goal.returns-in-Served
returns-in-Served g c =
    let known = g.R.Read.remaining c.args.reader.now in
    let mid = g.R.Read.remaining c.read_beginning.new.reader in
    let begun = c.in-Ok.begun in
    let w0 = g.W.Write.contents c.args.writer.now in
    let w1 = g.W.Write.contents c.serve_begun.new.writer in
    let read = subst (λ (r : _). IfOk r (λ begun. IfSome known (λ input. IsBeginningRead input mid begun.plant begun.saved))) c.in-Ok.is c.in_ok-begun.ensures.begun in
    let served = subst (λ (end : BegunEnd). EndsBegun asked.Nothing begun.plant begun.saved mid w0 w1 end) c.in-Served.is c.in_ok-_last.ensures in
    begun_served known mid begun.plant begun.saved w0 w1 asked.Nothing c.in-Served._last read served
