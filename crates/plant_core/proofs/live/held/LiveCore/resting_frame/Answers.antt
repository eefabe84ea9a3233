use Rattle.std.proofs.Common.{Ok, refl, ap, ◌∙◌, arith}
use Rattle.plant_core.proofs.LiveLemmas.Common.{slot_book, slot_waiting, live_view}
use Rattle.plant_core.proofs.LiveLemmas.RestFaultLemmas.{desk_has_fault, desk_rests_more, first_seen_at, no_fault}
use Rattle.plant_core.proofs.live.held.LiveCore.resting_frame.Goals as goal

pub returns-in-Some-clause-fault : goal.returns-in-Some-clause-fault
returns-in-Some-clause-fault c =
    let core = c.args.self.now in
    desk_has_fault slot_book slot_waiting core.routes core.gather core.desks.items core.desks.len core.desks.ok.0 c.index.result.now c.always_one_each.ensures.some c.index.ensures _ c.frame-frame.ensures
    c.loop-op.op c.index-in-loop-op.result.now c.in-Some.fault (omega (arith, c.loop-op-test.true, c.len-op-end.ensures)) c.index-in-loop-op.ensures c.loop-op.invariant c.in-Some.ensures.fault

pub returns-in-Some-clause-only : goal.returns-in-Some-clause-only
returns-in-Some-clause-only c = λ frame rests.
    let core = c.args.self.now in
    let is = desk_has_fault slot_book slot_waiting core.routes core.gather core.desks.items core.desks.len core.desks.ok.0 c.index.result.now c.always_one_each.ensures.some c.index.ensures _ c.frame-frame.ensures
    c.loop-op.op c.index-in-loop-op.result.now c.in-Some.fault (omega (arith, c.loop-op-test.true, c.len-op-end.ensures)) c.index-in-loop-op.ensures c.loop-op.invariant c.in-Some.ensures.fault in
    absurd (no_fault (live_view core) c.in-Some.fault frame is rests)

pub loop-op-preserved : goal.loop-op-preserved
loop-op-preserved c =
    let core = c.args.self.now in
    desk_rests_more slot_book slot_waiting core.routes core.gather core.desks.items core.desks.len core.desks.ok.0 c.index.result.now c.always_one_each.ensures.some c.index.ensures _ c.frame-frame.ensures
    c.loop-op.op c.index-in-loop-op.result.now (omega (arith, c.loop-op-test.true, c.len-op-end.ensures)) c.index-in-loop-op.ensures (c.in_default.ensures.frame refl) (c.in_default.ensures.waiting refl) c.loop-op.invariant

pub returns-clause-only : goal.returns-clause-only
returns-clause-only c = λ frame rests.
    let core = c.args.self.now in
    ap Ok (c.frame-frame.ensures ∙ rests.before 0 _ (first_seen_at slot_book slot_waiting core.routes core.gather core.desks.items core.desks.len core.desks.ok.0 c.index.result.now c.always_one_each.ensures.some c.index.ensures _ c.frame-frame.ensures))
