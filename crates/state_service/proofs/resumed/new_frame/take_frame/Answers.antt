use Rattle.std.proofs.Common.{List, ℕ, subst}
use Rattle.state_service.proofs.ResumedLemmas.Common.{live_view, NamesFrame, IsNewFrameFault}
use Rattle.state_service.proofs.ResumedLemmas.FrameLemmas.{frame_awaits, frame_refused}
use Rattle.state_service.proofs.resumed.new_frame.take_frame.Goals as goal

pub returns-in-Ok-clause-on : goal.returns-in-Ok-clause-on
returns-in-Ok-clause-on g c = λ first known read written holds.
    let service = c.args.service.now in
    let other = c.in-Ok.other in
    frame_awaits first c.args.after service.number (live_view service.core) service.file service.held.bytes.items service.held.is_long written (g.W.Write.contents c.args.writer.now) known read holds
    c.requires.asks c.requires.whole c.in_ok-service.field-0 c.in_ok-service.ensures other.saved other.plant
    (subst (λ (line : List ℕ). NamesFrame line other.saved.frame) c.as_slice.ensures.value c.in-Ok.ensures.names) c.in-Ok.ensures.ok c.in-Ok.ensures.plant c.in-Ok.ensures.valid

pub returns-in_ok-answer_frame_refusal-in-Err-clause-on : goal.returns-in_ok-answer_frame_refusal-in-Err-clause-on
returns-in_ok-answer_frame_refusal-in-Err-clause-on g c = λ first known read written holds.
    let service = c.args.service.now in
    let live = live_view service.core in
    frame_refused first c.args.after service.number live service.file service.held.bytes.items service.held.is_long written (g.W.Write.contents c.args.writer.now) known read holds
    c.requires.asks c.requires.whole c.in_ok-service.field-0 c.in_ok-service.ensures c.in-Err.fault (g.W.Write.contents c.answer_frame_refusal.new.writer)
    (subst (λ (line : List ℕ). IsNewFrameFault service.file live line c.in-Err.fault) c.as_slice.ensures.value c.in-Err.ensures.fault) c.in_ok-answer_frame_refusal-in-Err.ensures
