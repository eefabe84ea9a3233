use Rattle.std.proofs.Common.{refl, ap}
use Rattle.plant_core.proofs.LiveLemmas.Common.{on_ok_weaker, book_of, slot_book, slot_waiting, live_view}
use Rattle.operator_model.specs.declared.action.Action.TheVariants as actions
use Rattle.run_model.specs.declared.step.Step.TheVariants as steps
use Rattle.plant_core.proofs.LiveLemmas.DeskPlaces.{acts_one}
use Rattle.plant_core.proofs.LiveLemmas.PlaceLemmas.{seen_at}
use Rattle.plant_core.proofs.LiveLemmas.StepLemmas.{same_if}
use Rattle.plant_core.proofs.LiveLemmas.FrameLemmas.{no_frame}
use Rattle.plant_core.proofs.LiveLemmas.GoLemmas.{bare_seen}
use Rattle.plant_core.proofs.LiveLemmas.FramelessLemmas.{may_work, request_within, request_here, acted_on, acted_reaches}
use Rattle.plant_core.proofs.live.held.LiveCore.take_request_at.Goals as goal

pub take_request-requires : goal.take_request-requires
take_request-requires c =
    let core = c.args.self.now in
    let within = request_within slot_book core.routes core.gather _ core.desks.items core.desks.len c.args.op c.args.first core.desks.ok.0 c.requires in
    request_here (live_view core) c.args.op c.args.first (slot_book c.index_mut.result.now) c.requires
    (seen_at slot_book core.desks.items core.desks.len c.args.op c.index_mut.result.now core.desks.ok.0 within c.index_mut.ensures.value)

pub invariant_of-self : goal.invariant_of-self
invariant_of-self c =
    let core = c.args.self.now in
    let within = request_within slot_book core.routes core.gather _ core.desks.items core.desks.len c.args.op c.args.first core.desks.ok.0 c.requires in
    let did = c.take_request.ensures in
    let one = acts_one slot_book slot_waiting c.take_request.result core.desks.items core.desks.len c.args.op c.index_mut.result.now c.take_request.new.self _ _ core.desks.ok.0 within c.index_mut.ensures.value
    (on_ok_weaker c.take_request.result (λ same. ap book_of same) did.book) did.same_book did.waiting did.same_waiting in
    record {
      let_go = core.let_go;
      reached = acted_reaches core.routes core.gather _ _ _ _ c.args.op actions.Work _ _ one.book_is one.waiting_is (bare_seen slot_book core.desks.items (λ desk. refl)) c.always.ensures.gathering
          (may_work (slot_book c.index_mut.result.now)) (no_frame _ _ _ actions.Work refl)
          c.take_request.result c.always.ensures.plant (steps.Work c.args.op, refl) one.books one.queues one.same_books one.same_queues core.reached;
    }

pub returns-clause-ok : goal.returns-clause-ok
returns-clause-ok c =
    let core = c.args.self.now in
    let within = request_within slot_book core.routes core.gather _ core.desks.items core.desks.len c.args.op c.args.first core.desks.ok.0 c.requires in
    let did = c.take_request.ensures in
    let one = acts_one slot_book slot_waiting c.take_request.result core.desks.items core.desks.len c.args.op c.index_mut.result.now c.take_request.new.self _ _ core.desks.ok.0 within c.index_mut.ensures.value
    (on_ok_weaker c.take_request.result (λ same. ap book_of same) did.book) did.same_book did.waiting did.same_waiting in
    acted_on core.routes core.gather _ _ _ _ c.args.op actions.Work _ _ one.book_is one.waiting_is (bare_seen slot_book core.desks.items (λ desk. refl)) c.always.ensures.gathering
    (may_work (slot_book c.index_mut.result.now)) (no_frame _ _ _ actions.Work refl)
    c.take_request.result _ _ one.books one.queues did.outputs

pub returns-clause-err : goal.returns-clause-err
returns-clause-err c =
    let core = c.args.self.now in
    let within = request_within slot_book core.routes core.gather _ core.desks.items core.desks.len c.args.op c.args.first core.desks.ok.0 c.requires in
    let did = c.take_request.ensures in
    let one = acts_one slot_book slot_waiting c.take_request.result core.desks.items core.desks.len c.args.op c.index_mut.result.now c.take_request.new.self _ _ core.desks.ok.0 within c.index_mut.ensures.value
    (on_ok_weaker c.take_request.result (λ same. ap book_of same) did.book) did.same_book did.waiting did.same_waiting in
    same_if c.take_request.result core.routes core.gather _ _ _ _ one.same_books one.same_queues
