use Rattle.std.proofs.Common.{◌≡◌, [], drop}
use Rattle.slice_table.proofs.Common.{items_view, each, class_read}
use Rattle.slice_table.proofs.read_consts.classes_each.Given as goal

abbrev pub invariant-loop-value : goal.invariant-loop-value
invariant-loop-value l = each class_read l.classes.items (items_view (drop l.value-index l.values)) ≡ each class_read [] (items_view l.values)
