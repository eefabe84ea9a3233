use Rattle.std.proofs.Common.{◌≡◌, ◌∙◌, sym, ap, get_or, None, Some, List}
use Rattle.plant_workers.proofs.AuditLemmas.Common.{slice_get, Entry, Output, frames_of, waiting_in, none_here, one_here, numbered_frame}
use Rattle.plant_workers.proofs.audit.due.next_frame.Goals as goal

pub returns-in-Some : goal.returns-in-Some
returns-in-Some c =
    let entry : Entry = c.index-history-place.result in
    let seen : slice_get (frames_of (get_or c.args.history.now c.loop-place.place entry).outputs) 0 ≡ Some (numbered_frame c.in-Some.frame) =
    ap (λ (os : List Output). slice_get (frames_of os) 0) (sym c.as_slice.ensures) ∙ sym c.in-Some.ensures in
    let here : waiting_in c.args.history.now c.loop-place.place ≡ waiting_in c.args.history.now c.args.from = c.loop-place.invariant in
    sym here ∙ one_here c.args.history.now c.loop-place.place entry (numbered_frame c.in-Some.frame) c.loop-place-test.true
    (c.requires c.loop-place.place entry c.loop-place-test.true) seen

pub loop-place-preserved : goal.loop-place-preserved
loop-place-preserved c =
    let entry : Entry = c.index-history-place.result in
    let seen : slice_get (frames_of (get_or c.args.history.now c.loop-place.place entry).outputs) 0 ≡ None =
    ap (λ (os : List Output). slice_get (frames_of os) 0) (sym c.as_slice.ensures) ∙ sym c.in_default.ensures in
    let here : waiting_in c.args.history.now c.loop-place.place ≡ waiting_in c.args.history.now c.args.from = c.loop-place.invariant in
    none_here c.args.history.now c.loop-place.place entry c.loop-place-test.true seen ∙ here
