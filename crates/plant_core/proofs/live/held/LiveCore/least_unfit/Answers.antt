use Rattle.std.proofs.Common.{refl, ◌∙◌, arith}
use Rattle.plant_core.proofs.LiveLemmas.Common.{slice_get-get_or, slot_book}
use Rattle.plant_core.proofs.LiveLemmas.PlaceLemmas.{seen_at}
use Rattle.plant_core.proofs.LiveLemmas.JudgeLemmas.{is_here, is_later, is_nowhere}
use Rattle.plant_core.proofs.live.held.LiveCore.least_unfit.Goals as goal

pub loop-op-init : goal.loop-op-init
loop-op-init c = refl

pub returns-then-refuses : goal.returns-then-refuses
returns-then-refuses c =
    let desks = c.args.self.now.desks in
    is_here c.args.unfit c.args.from _ c.args.rows.now c.loop-op.op (slot_book c.index.result.now) _
    (seen_at slot_book desks.items desks.len c.loop-op.op c.index.result.now desks.ok.0 (omega (arith, c.loop-op-test.true, c.requires)) c.index.ensures)
    (slice_get-get_or c.args.rows.now c.loop-op.op _ c.loop-op-test.true) c.if-refuses.ensures
    ∙ c.loop-op.invariant

pub loop-op-preserved : goal.loop-op-preserved
loop-op-preserved c =
    let desks = c.args.self.now.desks in
    is_later c.args.unfit c.args.from _ c.args.rows.now c.loop-op.op (slot_book c.index.result.now) _
    (seen_at slot_book desks.items desks.len c.loop-op.op c.index.result.now desks.ok.0 (omega (arith, c.loop-op-test.true, c.requires)) c.index.ensures)
    (slice_get-get_or c.args.rows.now c.loop-op.op _ c.loop-op-test.true) c.if-refuses.ensures
    ∙ c.loop-op.invariant

pub returns : goal.returns
returns c = is_nowhere c.args.unfit c.args.from _ c.args.rows.now c.loop-op.op (omega (arith, c.loop-op-test.false)) ∙ c.loop-op.invariant
