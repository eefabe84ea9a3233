use Rattle.std.proofs.Common.{◌≡◌, take}
use Rattle.pcap_capture.proofs.Common.{fold, with_byte}
use Rattle.pcap_capture.proofs.checks.rest_of.Given as goal

abbrev pub invariant-loop-byte : goal.invariant-loop-byte
invariant-loop-byte l = l.rest ≡ fold (with_byte l.polynomial) l.start (take l.byte-index l.bytes)
