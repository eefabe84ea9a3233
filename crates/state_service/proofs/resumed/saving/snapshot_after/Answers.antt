use Rattle.std.proofs.Common.{IfOk, IfSome, subst}
use Rattle.state_service.proofs.ResumedLemmas.Common.{if_ok, BegunEnd, IsBeginningRead, EndsBegun}
use Rattle.state_service.specs.declared.resumed.last_state.AtEnd.TheVariants as asked
use Rattle.state_service.proofs.ResumedLemmas.SavedLemmas.{saved_after}
use Rattle.state_service.proofs.resumed.saving.snapshot_after.Goals as goal

pub returns-in-Served : goal.returns-in-Served
returns-in-Served g c =
    let known = g.R.Read.remaining c.args.reader.now in
    let mid = g.R.Read.remaining c.read_beginning.new.reader in
    let begun = c.in-Ok.begun in
    let a0 = g.A.Write.contents c.args.answers.now in
    let a1 = g.A.Write.contents c.serve_begun.new.writer in
    let read = subst (λ (r : _). IfOk r (λ begun. IfSome known (λ input. IsBeginningRead input mid begun.plant begun.saved))) c.in-Ok.is c.in_ok-begun.ensures.begun in
    let served = subst (λ (end : BegunEnd). EndsBegun asked.Snapshot begun.plant begun.saved mid a0 a1 end) c.in-Served.is c.in_ok-last.ensures in
    if_ok c.write_last.result _ _
    (λ end wrote.
    saved_after known mid begun.plant begun.saved a0 a1 (g.W.Write.contents c.args.writer.now) (g.W.Write.contents c.write_last.new.writer) c.in-Served.last end read served wrote) c.write_last.ensures
