use Rattle.std.proofs.Common.{◌≡◌, ◌≤◌}
use Rattle.flow_table.proofs.Common.{keys_of, gap_from}
use Rattle.flow_table.proofs.rows.least_free_sfid.Given as goal

abbrev pub invariant-loop-sfid : goal.invariant-loop-sfid
invariant-loop-sfid l = record {
  gap : gap_from l.next (keys_of l.sfid-iterator) ≡ gap_from l.range.first (keys_of l.places.entries);
  from : l.range.first ≤ l.next;
}
