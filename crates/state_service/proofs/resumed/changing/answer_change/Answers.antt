use Rattle.std.proofs.Common.{ℕ, List, IfOk, IfErr, sym, subst}
use Rattle.state_service.proofs.ResumedLemmas.Common.{Appends, live_view, WhereKnown, on_ok_map, IsChangeOf, IsChangeFault, change_text, lines_left, AreServedSoFar}
use Rattle.state_service.proofs.ResumedLemmas.ServedLemmas.{plant_changed, plant_kept}
use Rattle.state_service.proofs.resumed.changing.answer_change.Goals as goal

pub returns-in_ok-write_change-in-Ok-clause-on : goal.returns-in_ok-write_change-in-Ok-clause-on
returns-in_ok-write_change-in-Ok-clause-on g c = λ first known read written plant ok fault waits.
    let service = c.args.service.now in
    let old = live_view service.core in
    let new = live_view c.in-Ok.core in
    let text = c.args.waiting.text.items in
    let w1 = g.W.Write.contents c.args.writer.now in
    let w2 = g.W.Write.contents c.write_change.new.writer in
    let is = subst (λ (r : _). IfOk r (λ core. IsChangeOf old plant (live_view core))) c.in-Ok.is ok in
    let wrote = subst (λ (r : _). IfOk r (λ number. Appends w1 w2 (change_text number))) (c.resting_frame.ensures.only is.frame is.rests) c.in_ok-write_change-in-Ok.ensures in
    subst (λ (file : List ℕ). WhereKnown known read (λ input rest. AreServedSoFar first input (lines_left service.after rest) service.number new file written w2)) (sym c.from_vec.ensures)
    (plant_changed first service.after c.args.waiting.number service.number old service.file text plant written w1 w2 known read waits new is wrote)

pub returns-in-Err-clause-on : goal.returns-in-Err-clause-on
returns-in-Err-clause-on g c =
    on_ok_map c.answer_refusal.result _ _
    (λ wrote first known read written plant ok fault waits.
    let service = c.args.service.now in
    let old = live_view service.core in
    plant_kept first service.after c.args.waiting.number service.number old service.file c.args.waiting.text.items plant written (g.W.Write.contents c.args.writer.now)
    (g.W.Write.contents c.answer_refusal.new.writer) known read waits c.refusal_of.result
    (c.refusal_of.ensures old plant (subst (λ (r : _). IfErr r (IsChangeFault old plant)) c.in-Err.is fault)) wrote) c.answer_refusal.ensures
