use Rattle.std.proofs.Common.{arith, ◌+◌, List, map, option_map, refl, sym, ap, subst, ◌∙◌}
use Rattle.plant_workers.proofs.CellStateLemmas.Common.{slice_get-get_or, slice_get-map, slice_get_read, one_more_taken, all_taken, book_after_action, Told, cell_book, waiting_of}
use Rattle.operator_model.specs.declared.action.Action.TheVariants as actions
use Rattle.plant_workers.proofs.CellStateLemmas.ReceiptLemmas.{ReceiptsSoFar, one_more_receipt, all_receipts}
use Rattle.plant_workers.proofs.cell_state.giving.give.Goals as goal

pub loop-op-preserved : goal.loop-op-preserved
loop-op-preserved g c =
    let now = c.loop-op.helds in
    let here = c.loop-op.invariant.so_far in
    record {
      so_far = one_more_taken cell_book waiting_of (λ b row. book_after_action b (actions.Reslice c.args.from row)) c.args.rows.now c.args.helds.now.items now.items now.len c.loop-op.op c.index_mut.result.now _ _ now.ok.0
          (omega (arith, c.loop-op-test.true, c.requires.one_each, here.one_each, now.ok.0, c.args.helds.now.ok.0))
          c.index_mut.ensures.value (slice_get-get_or c.args.rows.now c.loop-op.op _ c.loop-op-test.true) c.reslice-receipt.ensures.book c.reslice-receipt.ensures.waiting here;
      receipts = subst (λ (ts : List Told). ReceiptsSoFar c.args.from c.args.rows.now (map cell_book c.args.helds.now.items) ts (c.loop-op.op + 1)) (sym c.push_reserved.ensures.items)
          (one_more_receipt c.args.from c.args.rows.now (map cell_book c.args.helds.now.items) c.loop-op.told.items c.loop-op.op _ _ _ (slice_get-get_or c.args.rows.now c.loop-op.op _ c.loop-op-test.true) (slice_get-map cell_book c.args.helds.now.items c.loop-op.op ∙ ap (option_map cell_book) (sym (here.others c.loop-op.op (omega arith)) ∙ slice_get_read now.items now.len c.loop-op.op c.index_mut.result.now now.ok.0 (omega (arith, c.loop-op-test.true, c.requires.one_each, here.one_each, now.ok.0, c.args.helds.now.ok.0)) c.index_mut.ensures.value)) (record { op_is = refl; caller_is = refl; receipt_is = c.reslice-receipt.ensures.receipt }) c.loop-op.invariant.receipts);
      many = omega arith;
      room = omega arith;
    }

pub returns-clause-books : goal.returns-clause-books
returns-clause-books g c = all_taken cell_book waiting_of (λ b row. book_after_action b (actions.Reslice c.args.from row)) c.args.rows.now c.args.helds.now.items c.loop-op.helds.items c.loop-op.op (omega (arith, c.loop-op-test.false)) c.loop-op.invariant.so_far

pub returns-clause-receipts : goal.returns-clause-receipts
returns-clause-receipts g c = all_receipts c.args.from c.args.rows.now _ c.loop-op.told.items c.loop-op.op (omega (arith, c.loop-op-test.false, c.loop-op.auto.op-end)) c.loop-op.invariant.receipts
