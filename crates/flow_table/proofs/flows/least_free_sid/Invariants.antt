use Rattle.std.proofs.Common.{◌≡◌, ◌≤◌}
use Rattle.flow_table.proofs.Common.{keys_of, gap_from}
use Rattle.flow_table.proofs.flows.least_free_sid.Given as goal

abbrev pub invariant-loop-sid : goal.invariant-loop-sid
invariant-loop-sid l = record {
  gap : gap_from l.next (keys_of l.sid-iterator) ≡ gap_from l.range.first (keys_of l.index.entries);
  from : l.range.first ≤ l.next;
}
