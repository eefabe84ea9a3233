use Rattle.std.proofs.Common.{◌≡◌, ◌-◌, []}
use Rattle.snapshot_format.proofs.Common.{take_items, take_entry, entry_follows}
use Rattle.snapshot_format.proofs.response_records.take_entries.Given as goal

abbrev pub invariant-loop : goal.invariant-loop
invariant-loop l = take_items take_entry entry_follows (l.count - l.counter) l.entries.items l.rest ≡ take_items take_entry entry_follows l.count [] l.bytes
