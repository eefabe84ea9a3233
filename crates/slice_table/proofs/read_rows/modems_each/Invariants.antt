use Rattle.std.proofs.Common.{◌≡◌, [], drop}
use Rattle.slice_table.proofs.Common.{items_view, each, modem_read}
use Rattle.slice_table.proofs.read_rows.modems_each.Given as goal

abbrev pub invariant-loop-value : goal.invariant-loop-value
invariant-loop-value l = each (modem_read l.place) l.modems.items (items_view (drop l.value-index l.values)) ≡ each (modem_read l.place) [] (items_view l.values)
