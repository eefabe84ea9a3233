use Rattle.std.proofs.Common.{◌≡◌}
use Rattle.pcap_capture.specs.Checks.{with_bits}
use Rattle.pcap_capture.proofs.checks.with_byte.Given as goal

abbrev pub invariant-loop-bit : goal.invariant-loop-bit
invariant-loop-bit l = l.rest ≡ with_bits l.polynomial l._bit l.initial.rest
