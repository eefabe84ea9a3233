use Rattle.std.proofs.Common.{refl, ap}
use Rattle.plant_core.proofs.LiveLemmas.Common.{on_ok_weaker, book_of, slot_book, slot_waiting}
use Rattle.operator_model.specs.declared.action.Action.TheVariants as actions
use Rattle.plant_core.proofs.LiveLemmas.DeskPlaces.{acts_one}
use Rattle.plant_core.proofs.LiveLemmas.PlaceLemmas.{seen_at}
use Rattle.plant_core.proofs.LiveLemmas.StepLemmas.{same_if}
use Rattle.plant_core.proofs.LiveLemmas.FrameLemmas.{no_frame}
use Rattle.plant_core.proofs.LiveLemmas.GoLemmas.{bare_seen}
use Rattle.plant_core.proofs.LiveLemmas.FramelessLemmas.{may_receive, acted_on, acted_reaches}
use Rattle.plant_core.proofs.live.held.LiveCore.receive_at.Goals as goal

pub receive-requires : goal.receive-requires
receive-requires c =
    let core = c.args.self.now in
    may_receive core.routes core.gather _ _ c.args.op c.args.modem c.args.heard (slot_book c.index_mut.result.now) core.reached c.requires.step
    (seen_at slot_book core.desks.items core.desks.len c.args.op c.index_mut.result.now core.desks.ok.0 c.requires.place c.index_mut.ensures.value)

pub invariant_of-self : goal.invariant_of-self
invariant_of-self c =
    let core = c.args.self.now in
    let did = c.receive.ensures in
    let one = acts_one slot_book slot_waiting c.receive.result core.desks.items core.desks.len c.args.op c.index_mut.result.now c.receive.new.self _ _ core.desks.ok.0 c.requires.place c.index_mut.ensures.value
    (on_ok_weaker c.receive.result (λ same. ap book_of same) did.book) did.same_book did.waiting did.same_waiting in
    record {
      let_go = core.let_go;
      reached = acted_reaches core.routes core.gather _ _ _ _ c.args.op (actions.Arrive c.args.modem c.args.heard) _ _ one.book_is one.waiting_is (bare_seen slot_book core.desks.items (λ desk. refl)) c.always.ensures.gathering
          (may_receive core.routes core.gather _ _ c.args.op c.args.modem c.args.heard (slot_book c.index_mut.result.now) core.reached c.requires.step one.book_is) (no_frame _ _ _ (actions.Arrive c.args.modem c.args.heard) refl)
          c.receive.result c.always.ensures.plant c.requires.step one.books one.queues one.same_books one.same_queues core.reached;
    }

pub returns-clause-ok : goal.returns-clause-ok
returns-clause-ok c =
    let core = c.args.self.now in
    let did = c.receive.ensures in
    let one = acts_one slot_book slot_waiting c.receive.result core.desks.items core.desks.len c.args.op c.index_mut.result.now c.receive.new.self _ _ core.desks.ok.0 c.requires.place c.index_mut.ensures.value
    (on_ok_weaker c.receive.result (λ same. ap book_of same) did.book) did.same_book did.waiting did.same_waiting in
    acted_on core.routes core.gather _ _ _ _ c.args.op (actions.Arrive c.args.modem c.args.heard) _ _ one.book_is one.waiting_is (bare_seen slot_book core.desks.items (λ desk. refl)) c.always.ensures.gathering
    (may_receive core.routes core.gather _ _ c.args.op c.args.modem c.args.heard (slot_book c.index_mut.result.now) core.reached c.requires.step one.book_is) (no_frame _ _ _ (actions.Arrive c.args.modem c.args.heard) refl)
    c.receive.result _ _ one.books one.queues did.outputs

pub returns-clause-err : goal.returns-clause-err
returns-clause-err c =
    let core = c.args.self.now in
    let did = c.receive.ensures in
    let one = acts_one slot_book slot_waiting c.receive.result core.desks.items core.desks.len c.args.op c.index_mut.result.now c.receive.new.self _ _ core.desks.ok.0 c.requires.place c.index_mut.ensures.value
    (on_ok_weaker c.receive.result (λ same. ap book_of same) did.book) did.same_book did.waiting did.same_waiting in
    same_if c.receive.result core.routes core.gather _ _ _ _ one.same_books one.same_queues
