use Rattle.std.proofs.Common.{◌≡◌, [], drop}
use Rattle.slice_table.proofs.Common.{items_view, each, row_read}
use Rattle.slice_table.proofs.read_rows.rows_each.Given as goal

abbrev pub invariant-loop-value : goal.invariant-loop-value
invariant-loop-value l = each (row_read l.consts) l.rows.items (items_view (drop l.value-index l.values)) ≡ each (row_read l.consts) [] (items_view l.values)
