use Rattle.std.proofs.Common.{[], List, refl, sym, subst}
use Rattle.plant_core.proofs.LiveLemmas.Common.{Minislots, Gathering, MayReslice, gathering_after_reslice, GoesOnAlike, Reslices, slot_book}
use Rattle.run_model.specs.declared.step.Step.TheVariants as steps
use Rattle.plant_core.proofs.LiveLemmas.FreeLemmas.{are_free}
use Rattle.plant_core.proofs.LiveLemmas.ResliceLemmas.{are_slices}
use Rattle.plant_core.proofs.LiveLemmas.GoLemmas.{bare_seen, performed, may_take, reslices_on, stepped_on}
use Rattle.plant_core.proofs.LiveLemmas.PartLemmas.{same_begun, same_gathering}
use Rattle.plant_core.proofs.live.held.LiveCore.give.Goals as goal

pub slices_of-requires : goal.slices_of-requires
slices_of-requires c =
    let core = c.args.self.now in
    are_slices core.gather c.args.from c.args.rows.now c.always.ensures.gathering
    (may_take core.routes core.gather _ _ c.args.from c.args.rows.now c.always.ensures.plant core.reached c.requires)

pub reslice-requires : goal.reslice-requires
reslice-requires c =
    let core = c.args.self.now in
    subst (λ (slices : List Minislots). MayReslice core.gather c.args.from slices) (sym c.in_ok-slices.ensures)
    (may_take core.routes core.gather _ _ c.args.from c.args.rows.now c.always.ensures.plant core.reached c.requires)

pub give-requires-clause-fit : goal.give-requires-clause-fit
give-requires-clause-fit c = (are_free c.args.from _ c.args.rows.now c.requires).fit

pub invariant_of-self : goal.invariant_of-self
invariant_of-self c = record { let_go = same_begun _ _ c.in_err-reslice.ensures.err c.args.self.now.let_go; reached = same_gathering _ _ _ _ _ c.in_err-reslice.ensures.err c.args.self.now.reached }

pub invariant_of-self-2 : goal.invariant_of-self-2
invariant_of-self-2 c =
    let core = c.args.self.now in
    record {
      let_go = c.let_go.ensures.begun;
      reached = stepped_on (steps.Reslice c.args.from c.args.rows.now) _ _ [] c.always.ensures.plant refl
          (performed (Reslices c.args.from c.args.rows.now) core.routes core.gather _ _ _ [] (bare_seen slot_book core.desks.items (λ desk. refl)) c.always.ensures.gathering
          (reslices_on core.routes core.gather _ _ _ _ _ c.args.from c.args.rows.now c.requires c.give.ensures.books c.give.ensures.waiting
          (may_take core.routes core.gather _ _ c.args.from c.args.rows.now c.always.ensures.plant core.reached c.requires)
          (subst (λ (slices : List Minislots). GoesOnAlike (gathering_after_reslice core.gather c.args.from slices) c.let_go.new.self) c.in_ok-slices.ensures
          (subst (λ (x : Gathering). GoesOnAlike x c.let_go.new.self) c.in_ok-reslice.ensures.state c.let_go.ensures.alike)) c.always-2.ensures))
          core.reached;
    }

pub returns-clause-ok : goal.returns-clause-ok
returns-clause-ok c =
    let core = c.args.self.now in
    performed (Reslices c.args.from c.args.rows.now) core.routes core.gather _ _ _ [] (bare_seen slot_book core.desks.items (λ desk. refl)) c.always.ensures.gathering
    (reslices_on core.routes core.gather _ _ _ _ _ c.args.from c.args.rows.now c.requires c.give.ensures.books c.give.ensures.waiting
    (may_take core.routes core.gather _ _ c.args.from c.args.rows.now c.always.ensures.plant core.reached c.requires)
    (subst (λ (slices : List Minislots). GoesOnAlike (gathering_after_reslice core.gather c.args.from slices) c.let_go.new.self) c.in_ok-slices.ensures
    (subst (λ (x : Gathering). GoesOnAlike x c.let_go.new.self) c.in_ok-reslice.ensures.state c.let_go.ensures.alike)) c.always-2.ensures)
