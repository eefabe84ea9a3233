use Rattle.std.proofs.Common.{◌≡◌, ◌≤◌, [], length, drop}
use Rattle.operator_book.specs.Resuming.{all_put_back, sids_fault}
use Rattle.operator_book.proofs.resuming.put_flows.Given as goal

abbrev pub invariant-loop-sfid : goal.invariant-loop-sfid
invariant-loop-sfid l = record {
  flows : all_put_back l.table.flows (drop l.sfid-index l.flows) ≡ all_put_back [] l.flows;
  fault : sids_fault l.table.flows (drop l.sfid-index l.flows) ≡ sids_fault [] l.flows;
  few : length l.table.flows ≤ l.sfid-index;
  capacity : l.table.capacity ≡ l.fn.table.capacity;
  units : l.table.units ≡ l.fn.table.units;
}
