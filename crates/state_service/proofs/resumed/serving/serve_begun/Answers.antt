use Rattle.std.proofs.Common.{◌≡◌, refl, sym, ap, subst}
use Rattle.state_service.proofs.ResumedLemmas.Common.{IsReachableFromStart, live_view, WhereKnown, if_ok, states_of, states_by_name, LineBreak, lines_left, resumed_service, AreServedSoFar, AwaitsCore, IsAfterItem}
use Rattle.state_service.specs.declared.resumed.new_plant.ItemOutcome.{ItemOutcome}
use Rattle.state_service.specs.declared.resumed.new_plant.WaitingItem.{WaitingItem}
use Rattle.state_service.proofs.ResumedLemmas.RefusalLemmas.{restarted_is_reached}
use Rattle.state_service.proofs.ResumedLemmas.ServedLemmas.{service_begun, all_served}
use Rattle.state_service.proofs.resumed.serving.serve_begun.Goals as goal

pub returns-in-Err : goal.returns-in-Err
returns-in-Err g c = (c.restore_fault.ensures c.args.begun.plant c.args.begun.saved c.in-Err.ensures.fault, refl)

pub loop-init : goal.loop-init
loop-init g c =
    let plant = c.args.begun.plant in
    let saved = c.args.begun.saved in
    let service = c.new-service.result in
    let live = live_view c.in-Ok-restore.core in
    let same : live_view service.core ≡ live = ap (λ (core : _). live_view core) c.new-service.ensures.core in
    record {
      reached = subst (λ (core : _). IsReachableFromStart (live_view core)) (sym c.new-service.ensures.core) (restarted_is_reached plant saved.frame (states_of saved) live c.in-Ok-restore.ensures.ok);
      served =
          service_begun plant saved live (live_view service.core) service.file service.number service.after (g.R.Read.remaining c.args.reader.now) (g.W.Write.contents c.args.writer.now)
          c.in-Ok-restore.ensures.ok same c.new-service.ensures.file c.new-service.ensures.number c.new-service.ensures.after;
    }

pub returns-in-End : goal.returns-in-End
returns-in-End g c =
    let service = c.loop.service in
    all_served (resumed_service c.args.begun.plant c.args.begun.saved) service.number (live_view service.core) service.file (g.W.Write.contents c.args.writer.now) (g.W.Write.contents c.loop.writer)
    service.after (g.R.Read.remaining c.args.reader.now) (g.R.Read.remaining c.loop.reader) c.args.at_end c.last_state.result c.in-End.is c.last_state.ensures c.loop.invariant.served

pub loop-preserved-in-Answered : goal.loop-preserved-in-Answered
loop-preserved-in-Answered g c =
    let first = resumed_service c.args.begun.plant c.args.begun.saved in
    let known = g.R.Read.remaining c.args.reader.now in
    let w0 = g.W.Write.contents c.args.writer.now in
    let w1 = g.W.Write.contents c.loop.writer in
    let w2 = g.W.Write.contents c.serve_item.new.writer in
    let old = c.loop.service in
    let new = c.serve_item.new.service in
    let so_far =
    subst (λ (after : LineBreak). WhereKnown known (g.R.Read.remaining c.loop.reader) (λ input rest. AreServedSoFar first input (lines_left after rest) old.number (live_view old.core) old.file w0 w1)) c.in-Another.is
    c.loop.invariant.served in
    record {
      reached = c.in_ok-serve_item.ensures.reached;
      served =
          subst (λ (outcome : ItemOutcome). WhereKnown known (g.R.Read.remaining c.serve_item.new.reader) (λ input rest. IsAfterItem first input rest new.after new.number (live_view new.core) new.file w0 w2 outcome)) c.in-Answered.is
          (c.in_ok-serve_item.ensures.on first known w0 so_far);
    }

pub answer_frame-requires-clause-core : goal.answer_frame-requires-clause-core
answer_frame-requires-clause-core g c =
    let saved = c.in-NewFrame.line.saved in
    if_ok c.restore-restored.result _ _ (λ core is. restarted_is_reached _ saved.frame (states_of saved) (live_view core) is) c.restore-restored.ensures.ok

pub answer_change-requires-clause-core : goal.answer_change-requires-clause-core
answer_change-requires-clause-core g c =
    let old = live_view c.serve_item.new.service.core in
    if_ok c.change-changed.result _ _ (λ core is. restarted_is_reached _ is.frame (states_by_name old) (live_view core) is.is_restarted) c.change-changed.ensures.ok

pub loop-preserved : goal.loop-preserved
loop-preserved g c =
    let first = resumed_service c.args.begun.plant c.args.begun.saved in
    let known = g.R.Read.remaining c.args.reader.now in
    let read = g.R.Read.remaining c.serve_item.new.reader in
    let w0 = g.W.Write.contents c.args.writer.now in
    let w1 = g.W.Write.contents c.loop.writer in
    let w2 = g.W.Write.contents c.serve_item.new.writer in
    let old = c.loop.service in
    let new = c.serve_item.new.service in
    let so_far =
    subst (λ (after : LineBreak). WhereKnown known (g.R.Read.remaining c.loop.reader) (λ input rest. AreServedSoFar first input (lines_left after rest) old.number (live_view old.core) old.file w0 w1)) c.in-Another.is
    c.loop.invariant.served in
    let waits =
    subst (λ (outcome : ItemOutcome). WhereKnown known read (λ input rest. IsAfterItem first input rest new.after new.number (live_view new.core) new.file w0 w2 outcome)) c.in-Awaits.is
    (c.in_ok-serve_item.ensures.on first known w0 so_far) in
    let here =
    subst (λ (waiting : WaitingItem). WhereKnown known read (λ input rest. AwaitsCore first input rest new.after new.number (live_view new.core) new.file waiting c.in-Awaits.plant w0 w2)) c.in-NewPlant.is waits in
    record {
      reached = c.in_ok-answer_change.ensures.reached;
      served = c.in_ok-answer_change.ensures.on first known read w0 _ c.change-changed.ensures.ok c.change-changed.ensures.fault here;
    }

pub loop-preserved-in-NewFrame : goal.loop-preserved-in-NewFrame
loop-preserved-in-NewFrame g c =
    let first = resumed_service c.args.begun.plant c.args.begun.saved in
    let known = g.R.Read.remaining c.args.reader.now in
    let read = g.R.Read.remaining c.serve_item.new.reader in
    let w0 = g.W.Write.contents c.args.writer.now in
    let w1 = g.W.Write.contents c.loop.writer in
    let w2 = g.W.Write.contents c.serve_item.new.writer in
    let old = c.loop.service in
    let new = c.serve_item.new.service in
    let so_far =
    subst (λ (after : LineBreak). WhereKnown known (g.R.Read.remaining c.loop.reader) (λ input rest. AreServedSoFar first input (lines_left after rest) old.number (live_view old.core) old.file w0 w1)) c.in-Another.is
    c.loop.invariant.served in
    let waits =
    subst (λ (outcome : ItemOutcome). WhereKnown known read (λ input rest. IsAfterItem first input rest new.after new.number (live_view new.core) new.file w0 w2 outcome)) c.in-Awaits.is
    (c.in_ok-serve_item.ensures.on first known w0 so_far) in
    let here =
    subst (λ (waiting : WaitingItem). WhereKnown known read (λ input rest. AwaitsCore first input rest new.after new.number (live_view new.core) new.file waiting c.in-Awaits.plant w0 w2)) c.in-NewFrame.is waits in
    record {
      reached = c.in_ok-answer_frame-in-NewFrame.ensures.reached;
      served = c.in_ok-answer_frame-in-NewFrame.ensures.on first known read w0 _ c.restore-restored.ensures.ok c.restore-restored.ensures.fault here;
    }
