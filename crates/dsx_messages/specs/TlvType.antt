-- The types of TLVs in a dynamic service message (CM-SP-MULPIv3.1, Annex C) that are known here: the flow encodings of the
-- upstream, and those that this product leaves out. Every other type is passed over.
use Rattle.std.specs.Prelude.{ℕ}

-- upstream packet classification encodings: 22, left out
abbrev pub upstream_classifier : ℕ
upstream_classifier = 22

-- downstream packet classification encodings: 23, left out
abbrev pub downstream_classifier : ℕ
downstream_classifier = 23

-- upstream service flow encodings: 24
abbrev pub upstream_service_flow : ℕ
upstream_service_flow = 24

-- downstream service flow encodings: 25, left out
abbrev pub downstream_service_flow : ℕ
downstream_service_flow = 25

-- payload header suppression encodings: 26, left out
abbrev pub payload_header_suppression : ℕ
payload_header_suppression = 26
