use Rattle.std.proofs.Common.{refl, ap}
use Rattle.plant_core.proofs.LiveLemmas.Common.{on_ok_weaker, book_of, slot_book, slot_waiting, live_view}
use Rattle.plant_core.proofs.LiveLemmas.DeskPlaces.{acts_one}
use Rattle.plant_core.proofs.LiveLemmas.PlaceLemmas.{seen_at}
use Rattle.plant_core.proofs.LiveLemmas.StepLemmas.{same_if}
use Rattle.plant_core.proofs.LiveLemmas.GoLemmas.{bare_seen}
use Rattle.plant_core.proofs.LiveLemmas.PlanLemmas.{planned_within, planned_may, committed_on, committed_reaches}
use Rattle.plant_core.proofs.live.held.LiveCore.commit_act.Goals as goal

pub commit-requires : goal.commit-requires
commit-requires c =
    let core = c.args.self.now in
    let within = planned_within slot_book core.routes core.gather _ core.desks.items core.desks.len c.args.act core.desks.ok.0 c.requires in
    planned_may (live_view core) c.args.act (slot_book c.index_mut.result.now) c.requires
    (seen_at slot_book core.desks.items core.desks.len c.args.act.op c.index_mut.result.now core.desks.ok.0 within c.index_mut.ensures.value)

pub invariant_of-self : goal.invariant_of-self
invariant_of-self c =
    let core = c.args.self.now in
    let did = c.commit.ensures in
    let within = planned_within slot_book core.routes core.gather _ core.desks.items core.desks.len c.args.act core.desks.ok.0 c.requires in
    let one = acts_one slot_book slot_waiting c.commit.result core.desks.items core.desks.len c.args.act.op c.index_mut.result.now c.commit.new.self _ _ core.desks.ok.0 within c.index_mut.ensures.value
    (on_ok_weaker c.commit.result (λ same. ap book_of same) did.book) did.same_book did.waiting did.same_waiting in
    record {
      let_go = rw did.gather core.let_go;
      reached = rw did.gather (committed_reaches core.routes core.gather _ _ _ _ c.args.act _ _ one.book_is one.waiting_is (bare_seen slot_book core.desks.items (λ desk. refl)) c.always.ensures.gathering c.commit.result c.always.ensures.plant c.requires
          one.books one.queues one.same_books one.same_queues core.reached);
    }

pub returns-clause-ok : goal.returns-clause-ok
returns-clause-ok c =
    let core = c.args.self.now in
    let did = c.commit.ensures in
    let within = planned_within slot_book core.routes core.gather _ core.desks.items core.desks.len c.args.act core.desks.ok.0 c.requires in
    let one = acts_one slot_book slot_waiting c.commit.result core.desks.items core.desks.len c.args.act.op c.index_mut.result.now c.commit.new.self _ _ core.desks.ok.0 within c.index_mut.ensures.value
    (on_ok_weaker c.commit.result (λ same. ap book_of same) did.book) did.same_book did.waiting did.same_waiting in
    rw did.gather (committed_on core.routes core.gather _ _ _ _ c.args.act _ _ one.book_is one.waiting_is (bare_seen slot_book core.desks.items (λ desk. refl)) c.always.ensures.gathering c.commit.result _ _ one.books one.queues did.outputs)

pub returns-clause-err : goal.returns-clause-err
returns-clause-err c =
    let core = c.args.self.now in
    let did = c.commit.ensures in
    let within = planned_within slot_book core.routes core.gather _ core.desks.items core.desks.len c.args.act core.desks.ok.0 c.requires in
    let one = acts_one slot_book slot_waiting c.commit.result core.desks.items core.desks.len c.args.act.op c.index_mut.result.now c.commit.new.self _ _ core.desks.ok.0 within c.index_mut.ensures.value
    (on_ok_weaker c.commit.result (λ same. ap book_of same) did.book) did.same_book did.waiting did.same_waiting in
    rw did.gather (same_if c.commit.result core.routes core.gather _ _ _ _ one.same_books one.same_queues)
