use Rattle.std.proofs.Common.{◌≡◌, ◌++◌, take}
use Rattle.snapshot_format.proofs.Common.{flat_map, string_bytes, entry_text}
use Rattle.snapshot_format.proofs.response_text.put_entries.Given as goal

abbrev pub invariant-loop-entry : goal.invariant-loop-entry
invariant-loop-entry l = string_bytes l.text ≡ string_bytes l.fn.text ++ flat_map entry_text (take l.entry-index l.entries)
