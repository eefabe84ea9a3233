use Rattle.std.proofs.Common.{option_map, sym, ap, ◌∙◌, arith}
use Rattle.plant_core.proofs.LiveLemmas.Common.{slice_get-get_or, slice_get-map, slice_get_read, slot_book, slot_waiting, went}
use Rattle.plant_core.proofs.LiveLemmas.GiveLemmas.{one_more_taken, all_taken}
use Rattle.operator_model.specs.declared.action.Action.TheVariants as actions
use Rattle.plant_core.proofs.live.giving.give.Goals as goal

pub reslice-requires : goal.reslice-requires
reslice-requires c =
    let now = c.loop-op.desks in
    let olds = c.args.desks.now.items in
    c.requires.fit c.loop-op.op _ (slot_book c.index_mut.result.now) (slice_get-get_or c.args.rows.now c.loop-op.op _ c.loop-op-test.true)
    (slice_get-map slot_book olds c.loop-op.op
    ∙ ap (option_map slot_book)
    (sym (c.loop-op.invariant.others c.loop-op.op (omega arith))
    ∙ slice_get_read now.items now.len c.loop-op.op c.index_mut.result.now now.ok.0
    (omega (arith, c.loop-op-test.true, c.requires.one_each, c.loop-op.invariant.one_each, now.ok.0, c.args.desks.now.ok.0)) c.index_mut.ensures.value))

pub loop-op-preserved : goal.loop-op-preserved
loop-op-preserved c =
    let now = c.loop-op.desks in
    let here = c.loop-op.invariant in
    one_more_taken slot_book slot_waiting (λ b row. went b (actions.Reslice c.args.from row)) c.args.rows.now c.args.desks.now.items now.items now.len c.loop-op.op c.index_mut.result.now _ _ now.ok.0
    (omega (arith, c.loop-op-test.true, c.requires.one_each, here.one_each, now.ok.0, c.args.desks.now.ok.0))
    c.index_mut.ensures.value (slice_get-get_or c.args.rows.now c.loop-op.op _ c.loop-op-test.true) c.reslice.ensures.book c.reslice.ensures.waiting here

pub returns-clause-books : goal.returns-clause-books
returns-clause-books c = all_taken slot_book slot_waiting (λ b row. went b (actions.Reslice c.args.from row)) c.args.rows.now c.args.desks.now.items c.loop-op.desks.items c.loop-op.op (omega (arith, c.loop-op-test.false)) c.loop-op.invariant
