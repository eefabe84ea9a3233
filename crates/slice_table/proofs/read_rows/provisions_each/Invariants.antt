use Rattle.std.proofs.Common.{◌≡◌, [], drop}
use Rattle.slice_table.specs.ReadRows.{HaveSets}
use Rattle.slice_table.proofs.Common.{items_view, each, provision_read}
use Rattle.slice_table.proofs.read_rows.provisions_each.Given as goal

abbrev pub invariant-loop-value : goal.invariant-loop-value
invariant-loop-value l = record {
  left : each (provision_read l.consts l.operator l.modems) l.flows.items (items_view (drop l.value-index l.values)) ≡ each (provision_read l.consts l.operator l.modems) [] (items_view l.values);
  sets : HaveSets l.consts l.flows.items;
}
