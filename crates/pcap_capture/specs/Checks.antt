-- The check sequences of a frame (CM-SP-MULPIv3.1, 6.2.1: the header's is the CRC-CCITT of X.25; 6.4.1: the message's is the
-- CRC-32 of Ethernet).
use Rattle.std.specs.Prelude.{ℕ, zero, suc, ◌/◌, ◌%◌, ◌==◌, List, if◌then◌else◌}
use Rattle.std.specs.List.{fold}
use Rattle.std.specs.Int.{w16, w32, to_le_bytes}
use Rattle.std.specs.Int.Bits.{bit_xor}

-- a bit more is divided by the polynomial, the bits standing in the order in which they are sent: the lowest goes first
abbrev pub with_bit : ℕ → ℕ → ℕ
with_bit polynomial rest = if rest % 2 == 1 then bit_xor (rest / 2) polynomial else rest / 2

-- so many bits more are divided
abbrev pub with_bits : ℕ → ℕ → ℕ → ℕ
with_bits polynomial zero rest = rest
with_bits polynomial (suc count) rest = with_bit polynomial (with_bits polynomial count rest)

-- a byte more is divided
unfoldable pub with_byte : ℕ → ℕ → ℕ → ℕ
with_byte polynomial rest byte = with_bits polynomial 8 (bit_xor rest byte)

-- what is left of bytes that are divided by the polynomial, one after the other
abbrev pub rest_of : ℕ → ℕ → List ℕ → ℕ
rest_of polynomial start bytes = fold (with_byte polynomial) start bytes

-- the CRC-CCITT of bytes, which are divided bit by bit in the order in which they are sent: x^16 + x^12 + x^5 + 1, begun with ones, and
-- complemented
abbrev pub crc_x25 : List ℕ → ℕ
crc_x25 bytes = bit_xor (rest_of 33800 65535 bytes) 65535

-- the CRC-32 of bytes, divided likewise by the polynomial of Ethernet: begun with ones, and complemented
abbrev pub crc_32 : List ℕ → ℕ
crc_32 bytes = bit_xor (rest_of 3988292384 4294967295 bytes) 4294967295

-- the header check sequence, as it is sent
abbrev pub header_check : List ℕ → List ℕ
header_check bytes = to_le_bytes w16 (crc_x25 bytes)

-- the frame check sequence, as it is sent
abbrev pub frame_check : List ℕ → List ℕ
frame_check bytes = to_le_bytes w32 (crc_32 bytes)
