-- How the address of a modem is hashed and shown.
use Rattle.std.specs.Prelude.{ℕ, ◌+◌, ◌/◌, ◌%◌, List, [], ◌∷◌, slice_index, nat_lt, if◌then◌else◌}
use Rattle.std.specs.Int.{w64, from_be_bytes}
use Rattle.std.specs.List.{flat_map}

-- the six bytes of an address as one number, the first byte highest
abbrev pub address_number : List ℕ → ℕ
address_number address = from_be_bytes w64 (0 ∷ 0 ∷ address)

-- the upper-case hexadecimal digit of a number below 16, as its character
abbrev pub hex_digit : ℕ → ℕ
hex_digit n = if nat_lt n 10 then 48 + n else 55 + n

-- the two digits of a byte
abbrev pub hex_pair : ℕ → List ℕ
hex_pair byte = hex_digit (byte / 16) ∷ hex_digit (byte % 16) ∷ []

-- two digits for each of the six bytes of an address, with nothing between them
abbrev pub hex_digits : List ℕ → List ℕ
hex_digits address = flat_map (λ place. hex_pair (slice_index address place)) (0 ∷ 1 ∷ 2 ∷ 3 ∷ 4 ∷ 5 ∷ [])
