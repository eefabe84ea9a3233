-- What is in a field of a script's line (implementation-specific).
use Rattle.std.specs.Prelude.{◌==◌, ℕ, ◌+◌, ◌-◌, ◌*◌, ◌&&◌, nat_le, List, [], ◌∷◌, ◌++◌, length, Option, Some, None, Result, Ok, Err, if◌then◌else◌}
use Rattle.std.specs.Char.{is_ascii_digit}
use Rattle.lists.specs.Results.{◌>>=◌}
use Rattle.line_service.specs.script.Messages.{message_in}
use Rattle.line_service.specs.declared.script.fields.NumberName.{NumberName}
use Rattle.line_service.specs.declared.script.fields.FieldError.{FieldError}
use Rattle.line_service.specs.declared.script.fields.FieldError.TheVariants.{FieldCount, Hexadecimal, Number, DigitCount}
use Rattle.line_service.specs.declared.script.fields.FieldFault.{FieldFault}
use Rattle.line_service.specs.declared.script.fields.FieldFault.TheVariants.{Invalid, NoMemory}

-- ---- what is read, or the first thing wrong with the line

-- what is read of a field, or the error of its line
abbrev pub FieldResult : Type 0 → Type 0
FieldResult A = Result A FieldError

-- the error of a field that a fault stands for: none where memory ran out
abbrev pub field_cause : FieldFault → Option FieldError
field_cause NoMemory = None
field_cause (Invalid error) = Some error

-- what is read, after what was read before
abbrev pub behind : {A : Type 0} → List A → FieldResult (List A) → FieldResult (List A)
behind before (Ok more) = Ok (before ++ more)
behind before (Err error) = Err error

-- what is read, or this error where there is nothing
abbrev pub required_field : {A : Type 0} → FieldError → Option A → FieldResult A
required_field error None = Err error
required_field error (Some x) = Ok x

-- ---- fields

-- two fields and no more
abbrev pub two_of : List (List ℕ) → FieldResult (List ℕ × List ℕ)
two_of (a ∷ b ∷ []) = Ok (a, b)
two_of fields = Err FieldCount

-- three fields and no more
abbrev pub three_of : FieldError → List (List ℕ) → FieldResult (List ℕ × List ℕ × List ℕ)
three_of error (a ∷ b ∷ c ∷ []) = Ok (a, b, c)
three_of error fields = Err error

-- the number that digits go on to, where it stays at most `most`
abbrev pub number_after : ℕ → ℕ → List ℕ → Option ℕ
number_after most number [] = Some number
number_after most number (d ∷ digits) =
    if is_ascii_digit d && nat_le (number * 10 + (d - 48)) most then number_after most (number * 10 + (d - 48)) digits else None

-- a decimal number, at most `most`; leading zeros are digits
abbrev pub decimal_in : ℕ → List ℕ → Option ℕ
decimal_in most text = if length text == 0 then None else number_after most 0 text

-- a number that has too many digits
abbrev pub of_digits : ℕ → NumberName → ℕ → List ℕ → ℕ → FieldResult ℕ
of_digits field name digits text number = if nat_le (length text) digits then Ok number else Err (DigitCount field name digits)

-- the number of this name in a field: decimal, at most `limit`, and of at most so many digits
abbrev pub number_in : ℕ → NumberName → ℕ → ℕ → List ℕ → FieldResult ℕ
number_in field name digits limit text = required_field (Number field name limit) (decimal_in limit text) >>= of_digits field name digits text

-- a number of 16 bits in the field of this number
abbrev pub short_in : ℕ → NumberName → List ℕ → FieldResult ℕ
short_in field name text = number_in field name 5 65535 text

-- the bytes of a message: `-` for none, else hexadecimal
abbrev pub message_bytes : List ℕ → Option (List ℕ)
message_bytes text = if length text == 0 then None else message_in text

-- the bytes of a message in a field
abbrev pub bytes_in : List ℕ → FieldResult (List ℕ)
bytes_in text = required_field Hexadecimal (message_bytes text)
