-- The fields of a line (implementation-specific).
use Rattle.std.specs.Prelude.{◌==◌, ℕ, ◌+◌, ◌-◌, ◌*◌, nat_le, Bool, true, false, List, [], ◌∷◌, length, take, drop, position, Option, Some, None, Result, Ok, Err, if◌then◌else◌, codes}
use Rattle.std.specs.Char.{is_ascii_digit}
use Rattle.std.specs.Str.{bytes_eq}
use Rattle.hex.specs.Hex.{decode_of, decode_sized}
use Rattle.hex.specs.declared.error.FromHexError.{FromHexError}
use Rattle.lists.specs.Results.{◌>>=◌}
use Rattle.dsx_messages.specs.declared.modem.Modem.{Modem}
use Rattle.plant.specs.Name.{is_operator_name}
use Rattle.snapshot_format.specs.declared.fault.Wrong.{Wrong}
use Rattle.snapshot_format.specs.declared.fault.Wrong.TheVariants.{Cut, Shape, Range}
use Rattle.snapshot_format.specs.declared.fault.ReadStop.{ReadStop}
use Rattle.snapshot_format.specs.Reading.{Taken, stop_at, place_result}

-- ---- characters that are fixed

-- the bytes after a literal
unfoldable pub take_literal : List ℕ → List ℕ → Result (List ℕ) ReadStop
take_literal literal bytes =
    if bytes_eq (take (length literal) bytes) literal then Ok (drop (length literal) bytes)
    else if length bytes == 0 then stop_at Cut bytes
    else stop_at Shape bytes

-- whether a value follows: `=` before the value, `-` where there is none
unfoldable pub take_presence : ℕ → List ℕ → Taken Bool
take_presence end bytes =
    if bytes_eq (take 1 bytes) (codes "=") then Ok (true, drop 1 bytes)
    else take_literal (45 ∷ end ∷ []) bytes >>= λ rest. Ok (false, rest)

-- ---- a field and the byte that ends it

-- the bytes before a place, and those after the byte at it; where there is no place, the text is cut
abbrev pub field_until : Option ℕ → List ℕ → Taken (List ℕ)
field_until None bytes = stop_at Cut bytes
field_until (Some place) bytes = Ok (take place bytes, drop (place + 1) bytes)

-- a field: the bytes up to the first byte `end`, which ends it
unfoldable pub take_field : ℕ → List ℕ → Taken (List ℕ)
take_field end bytes = field_until (position (λ b. b == end) bytes) bytes

-- ---- numbers

-- the number that digits go on to, where it stays at most `most`
abbrev pub digits_after : ℕ → ℕ → List ℕ → Result ℕ Wrong
digits_after most number [] = Ok number
digits_after most number (d ∷ digits) =
    if is_ascii_digit d then (if nat_le (number * 10 + (d - 48)) most then digits_after most (number * 10 + (d - 48)) digits else Err Range)
    else Err Shape

-- a decimal number, at most `most`
abbrev pub parse_number : ℕ → List ℕ → Result ℕ Wrong
parse_number most field = if length field == 0 then Err Shape else digits_after most 0 field

-- a field that is a decimal number, at most `most`
unfoldable pub take_number : ℕ → ℕ → List ℕ → Taken ℕ
take_number most end bytes = take_field end bytes >>= λ field. place_result (parse_number most field.0) bytes field.1

-- ---- names, addresses and bytes

-- an operator's name
abbrev pub parse_name : List ℕ → Result (List ℕ) Wrong
parse_name field = if is_operator_name field then Ok field else Err Shape

-- a field that is an operator's name
unfoldable pub take_name : ℕ → List ℕ → Taken (List ℕ)
take_name end bytes = take_field end bytes >>= λ field. place_result (parse_name field.0) bytes field.1

-- an address that was read, as a modem
abbrev pub address_of : Result (List ℕ) FromHexError → Result Modem Wrong
address_of (Ok address) = Ok (record { 0 = address })
address_of (Err fault) = Err Shape

-- an address of 12 hexadecimal digits
unfoldable pub take_modem : ℕ → List ℕ → Taken Modem
take_modem end bytes = take_field end bytes >>= λ field. place_result (address_of (decode_sized field.0 6)) bytes field.1

-- bytes that were read in hexadecimal
abbrev pub decode_result : Result (List ℕ) FromHexError → Result (List ℕ) Wrong
decode_result (Ok bytes) = Ok bytes
decode_result (Err fault) = Err Shape

-- bytes in hexadecimal; `-` for none
abbrev pub parse_bytes : List ℕ → Result (List ℕ) Wrong
parse_bytes field = if bytes_eq field (codes "-") then Ok [] else decode_result (decode_of field)

-- a field of bytes in hexadecimal
unfoldable pub take_bytes : ℕ → List ℕ → Taken (List ℕ)
take_bytes end bytes = take_field end bytes >>= λ field. place_result (parse_bytes field.0) bytes field.1
