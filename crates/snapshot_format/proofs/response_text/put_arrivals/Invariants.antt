use Rattle.std.proofs.Common.{◌≡◌, ◌++◌, take}
use Rattle.snapshot_format.proofs.Common.{flat_map, string_bytes, arrival_text}
use Rattle.snapshot_format.proofs.response_text.put_arrivals.Given as goal

abbrev pub invariant-loop-arrival : goal.invariant-loop-arrival
invariant-loop-arrival l = string_bytes l.text ≡ string_bytes l.fn.text ++ flat_map arrival_text (take l.arrival-index l.arrivals)
