use Rattle.pcap_capture.proofs.Common.{◌≡◌, ℕ, ◌+◌, with_bit, with_bits}
use Rattle.std.proofs.Common.{add-one}

pub with_bits_more : (polynomial count rest : ℕ) → with_bits polynomial (count + 1) rest ≡ with_bit polynomial (with_bits polynomial count rest)
with_bits_more polynomial count rest = rw (add-one count)
