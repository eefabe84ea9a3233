use Rattle.std.proofs.Common.{◌≡◌, [], take, drop}
use Rattle.operator_book.specs.Resuming.{entries_fault}
use Rattle.operator_book.proofs.resuming.put_responses.Given as goal

abbrev pub invariant-loop-entry : goal.invariant-loop-entry
invariant-loop-entry l = record {
  entries : l.kept.entries ≡ take l.entry-index l.entries;
  fault : entries_fault l.kept.entries (drop l.entry-index l.entries) ≡ entries_fault [] l.entries;
  capacity : l.kept.capacity ≡ l.fn.kept.capacity;
  waits : l.kept.waits ≡ l.fn.kept.waits;
}
