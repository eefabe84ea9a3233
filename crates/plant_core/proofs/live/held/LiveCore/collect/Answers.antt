use Rattle.std.proofs.Common.{◌∙◌, refl, ap, Err}
use Rattle.run_model.specs.declared.step.Step.TheVariants as steps
use Rattle.plant_core.proofs.LiveLemmas.Common.{told_map, collect_fault, slot_book, slot_waiting}
use Rattle.plant_core.proofs.LiveLemmas.PlaceLemmas.{seen_at}
use Rattle.plant_core.proofs.LiveLemmas.StepLemmas.{collect_told}
use Rattle.plant_core.proofs.LiveLemmas.GoLemmas.{desk_collects, oldest_fits, stepped_on}
use Rattle.plant_core.proofs.LiveLemmas.PartLemmas.{desk_same, reached_again, same_begun}
use Rattle.plant_core.proofs.live.held.LiveCore.collect.Goals as goal

pub collect_into-requires : goal.collect_into-requires
collect_into-requires c =
    let core = c.args.self.now in
    oldest_fits core.routes core.gather _ _ c.args.op (slot_waiting c.index_mut.result.now) c.always.ensures.plant core.reached
    (seen_at slot_waiting core.desks.items _ c.args.op c.index_mut.result.now (c.len.ensures ∙ core.desks.ok.0) c.if-op-len.false c.index_mut.ensures.value)

pub invariant_of-self-in-Ok : goal.invariant_of-self-in-Ok
invariant_of-self-in-Ok c =
    let core = c.args.self.now in
    let put = c.in-Ok.ensures.ok in
    record {
      let_go = c.let_go.ensures.begun;
      reached = stepped_on (steps.Collect c.args.op) _ _ (told_map put.0) c.always.ensures.plant refl
          (desk_collects slot_book slot_waiting core.routes core.gather c.collect_into.new.gather c.let_go.new.self core.desks.items _ c.args.op c.index_mut.result.now c.collect_into.new.self put.0
          c.always.ensures.plant core.reached (c.len.ensures ∙ core.desks.ok.0) c.if-op-len.false c.index_mut.ensures.value put.1 c.in-Ok.ensures.book c.let_go.ensures.alike c.always-in-Ok.ensures (λ desk. refl) c.always.ensures.gathering)
          core.reached;
    }

pub invariant_of-self-in-Err-1 : goal.invariant_of-self-in-Err-1
invariant_of-self-in-Err-1 c =
    let core = c.args.self.now in
    record {
      let_go = same_begun _ _ c.in-Err.ensures.same_gather core.let_go;
      reached = reached_again _ _
          (desk_same slot_book slot_waiting core.routes _ _ core.desks.items _ c.args.op c.index_mut.result.now c.collect_into.new.self
          (c.len.ensures ∙ core.desks.ok.0) c.if-op-len.false c.index_mut.ensures.value c.in-Err.ensures.book c.in-Err.ensures.same_waiting c.in-Err.ensures.same_gather)
          core.reached;
    }

pub returns-in-Ok-clause-ok : goal.returns-in-Ok-clause-ok
returns-in-Ok-clause-ok c =
    let core = c.args.self.now in
    let put = c.in-Ok.ensures.ok in (
      told_map put.0,
      put.2,
      desk_collects slot_book slot_waiting core.routes core.gather c.collect_into.new.gather c.let_go.new.self core.desks.items _ c.args.op c.index_mut.result.now c.collect_into.new.self put.0
          c.always.ensures.plant core.reached (c.len.ensures ∙ core.desks.ok.0) c.if-op-len.false c.index_mut.ensures.value put.1 c.in-Ok.ensures.book c.let_go.ensures.alike c.always-in-Ok.ensures (λ desk. refl) c.always.ensures.gathering,
    )

pub returns-in-Ok-clause-fault : goal.returns-in-Ok-clause-fault
returns-in-Ok-clause-fault c =
    let core = c.args.self.now in
    ap (collect_fault c.args.op) (seen_at slot_waiting core.desks.items _ c.args.op c.index_mut.result.now (c.len.ensures ∙ core.desks.ok.0) c.if-op-len.false c.index_mut.ensures.value)
    ∙ c.in-Ok.ensures.fault

pub returns-in-Err-clause-err : goal.returns-in-Err-clause-err
returns-in-Err-clause-err c =
    let core = c.args.self.now in
    desk_same slot_book slot_waiting core.routes _ _ core.desks.items _ c.args.op c.index_mut.result.now c.collect_into.new.self
    (c.len.ensures ∙ core.desks.ok.0) c.if-op-len.false c.index_mut.ensures.value c.in-Err.ensures.book c.in-Err.ensures.same_waiting c.in-Err.ensures.same_gather

pub returns-in-Err-clause-fault : goal.returns-in-Err-clause-fault
returns-in-Err-clause-fault c =
    let core = c.args.self.now in
    collect_told {A = Unit {0}} (Err c.in-Err.fault) c.args.op _ (slot_waiting c.index_mut.result.now)
    (seen_at slot_waiting core.desks.items _ c.args.op c.index_mut.result.now (c.len.ensures ∙ core.desks.ok.0) c.if-op-len.false c.index_mut.ensures.value) c.in-Err.ensures.fault
