-- The sender in the first field after a command, and which of two errors of a line is the first (implementation-specific).
use Rattle.std.specs.Prelude.{◌||◌, ℕ, List, [], ◌∷◌, Ok, Err, if◌then◌else◌, codes}
use Rattle.std.specs.Str.{bytes_eq}
use Rattle.lists.specs.Results.{◌>>=◌}
use Rattle.plant.specs.declared.plant.PlantFields.{PlantFields}
use Rattle.line_service.specs.declared.script.fields.FieldError.{FieldError}
use Rattle.line_service.specs.declared.script.fields.FieldError.TheVariants.{UnknownCommand, FieldCount, Address}
use Rattle.line_service.specs.declared.script.script.Sender.{Sender}
use Rattle.line_service.specs.script.Fields.{FieldResult}
use Rattle.line_service.specs.script.Script.{sender_in}

-- a modem of the plant in the first field, and the fields after it, of which there is one at least
abbrev pub sender_first : PlantFields → List (List ℕ) → FieldResult (Sender × List (List ℕ))
sender_first plant [] = Err FieldCount
sender_first plant (field ∷ []) = Err FieldCount
sender_first plant (field ∷ other ∷ fields) = sender_in plant field >>= λ sender. Ok (sender, other ∷ fields)

-- the error of fields whose first has not the length of an address: no other is after it, or it is no address
abbrev pub address_error : List (List ℕ) → FieldError
address_error [] = FieldCount
address_error (field ∷ []) = FieldCount
address_error (field ∷ other ∷ fields) = Address

-- the error of a field, where there is one field; their number is wrong first
abbrev pub one_error : List (List ℕ) → FieldError → FieldError
one_error [] error = FieldCount
one_error (a ∷ []) error = error
one_error (a ∷ b ∷ fields) error = FieldCount

-- the same of two fields
abbrev pub two_error : List (List ℕ) → FieldError → FieldError
two_error [] error = FieldCount
two_error (a ∷ fields) error = one_error fields error

-- the same of three
abbrev pub three_error : List (List ℕ) → FieldError → FieldError
three_error [] error = FieldCount
three_error (a ∷ fields) error = two_error fields error

-- the error of a command that has no fields and needs some
abbrev pub alone_error : List ℕ → FieldError
alone_error word = if bytes_eq word (codes "M") || (bytes_eq word (codes "Q") || bytes_eq word (codes "Z")) then FieldCount else UnknownCommand
