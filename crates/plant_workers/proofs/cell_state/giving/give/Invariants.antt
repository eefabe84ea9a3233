use Rattle.std.proofs.Common.{◌≡◌}
use Rattle.plant_workers.proofs.CellStateLemmas.Common.{map, vec_len, vec_capacity, HaveTakenSoFar, book_after_action, cell_book, waiting_of}
use Rattle.operator_model.specs.declared.action.Action.TheVariants as actions
use Rattle.plant_workers.proofs.CellStateLemmas.ReceiptLemmas.{ReceiptsSoFar}
use Rattle.plant_workers.proofs.cell_state.giving.give.Given as goal

abbrev pub invariant-loop-op : goal.invariant-loop-op
invariant-loop-op g l = record {
  so_far : HaveTakenSoFar cell_book waiting_of (λ b row. book_after_action b (actions.Reslice l.from row)) l.rows l.initial.helds.items l.helds.items l.op;
  receipts : ReceiptsSoFar l.from l.rows (map cell_book l.initial.helds.items) l.told.items l.op;
  many : vec_len l.told ≡ l.op;
  room : vec_capacity l.told ≡ vec_capacity l.initial.told;
}
