use Rattle.std.proofs.Common.{IfOk, IfErr, subst}
use Rattle.state_service.proofs.ResumedLemmas.Common.{live_view, on_ok_map, states_of, IsRestarted, IsRestoreFault}
use Rattle.state_service.proofs.ResumedLemmas.FrameLemmas.{frame_changed, frame_not_changed}
use Rattle.state_service.proofs.resumed.new_frame.answer_frame.Goals as goal

pub returns-in-Ok-clause-on : goal.returns-in-Ok-clause-on
returns-in-Ok-clause-on g c = λ first known read written plant ok fault waits.
    let service = c.args.service.now in
    let saved = c.args.waiting.saved in
    let is = subst (λ (r : _). IfOk r (λ core. IsRestarted plant saved.frame (states_of saved) (live_view core))) c.in-Ok.is ok in
    frame_changed first service.after c.args.waiting.number service.number (live_view service.core) service.file saved plant written (g.W.Write.contents c.args.writer.now)
    (g.W.Write.contents c.write_frame.new.writer) known read waits (live_view c.in-Ok.core) is c.in_ok-write_frame-in-Ok.ensures

pub returns-clause-on : goal.returns-clause-on
returns-clause-on g c =
    on_ok_map c.answer_frame_refusal.result _ _
    (λ wrote first known read written plant ok fault waits.
    let service = c.args.service.now in
    let saved = c.args.waiting.saved in
    frame_not_changed first service.after c.args.waiting.number service.number (live_view service.core) service.file saved plant written (g.W.Write.contents c.args.writer.now)
    (g.W.Write.contents c.answer_frame_refusal.new.writer) known read waits c.start_refusal.result
    (c.start_refusal.ensures plant saved.frame (states_of saved) (subst (λ (r : _). IfErr r (IsRestoreFault plant saved.frame (states_of saved))) c.in-Err.is fault)) wrote) c.answer_frame_refusal.ensures
