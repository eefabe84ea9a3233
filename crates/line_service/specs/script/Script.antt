-- The lines of a script, and the steps that they say (implementation-specific).
use Rattle.std.specs.Prelude.{◌==◌, ℕ, ◌+◌, Bool, List, [], ◌∷◌, ◌++◌, All, length, map, Option, Some, None}
use Rattle.std.specs.Prelude.{Result, Ok, Err, if◌then◌else◌, codes}
use Rattle.std.specs.List.{position_from}
use Rattle.std.specs.Str.{bytes_eq}
use Rattle.hex.specs.Hex.{decode_sized}
use Rattle.hex.specs.declared.error.FromHexError.{FromHexError}
use Rattle.lists.specs.Results.{◌>>=◌}
use Rattle.dsx_messages.specs.declared.modem.Modem.{Modem}
use Rattle.plant.specs.declared.operator_row.RowFields.{RowFields}
use Rattle.plant.specs.declared.plant.PlantFields.{PlantFields}
use Rattle.plant.specs.Roster.{holder}
use Rattle.operator_model.specs.declared.action.SliceRow.{SliceRow}
use Rattle.operator_model.specs.declared.heard.Heard.{Heard}
use Rattle.operator_model.specs.declared.heard.Heard.TheVariants.{Message, Request}
use Rattle.run_model.specs.declared.step.Step.{Step}
use Rattle.run_model.specs.declared.step.Step.TheVariants.{Arrive, Work, Tick, Collect, Reslice}
use Rattle.run_model.specs.Placed.{IsPlaced}
use Rattle.line_service.specs.declared.script.fields.NumberName.TheVariants.{Sid, Minislots, Frame, Start, Length, Budget}
use Rattle.line_service.specs.declared.script.fields.FieldError.TheVariants.{UnknownCommand, FieldCount, Address, UnknownModem, UnknownOperator, SliceParts}
use Rattle.line_service.specs.declared.script.script.LineStep.{LineStep}
use Rattle.line_service.specs.declared.script.script.Sender.{Sender}
use Rattle.line_service.specs.script.Lines.{parts_of, lines_of, line_fields}
use Rattle.line_service.specs.script.Fields.{FieldResult, required_field, two_of, three_of, number_in, short_in, bytes_in}

-- ---- names

-- a modem with the operator that lists it, or that no operator does
abbrev pub sender_of : Modem → Option ℕ → FieldResult Sender
sender_of modem None = Err (UnknownModem modem)
sender_of modem (Some op) = Ok (record { modem = modem; op = op })

-- the sender of an address as it was read
abbrev pub sender_at : List RowFields → Result (List ℕ) FromHexError → FieldResult Sender
sender_at rows (Ok address) = sender_of (record { 0 = address }) (holder rows (record { 0 = address }))
sender_at rows (Err fault) = Err Address

-- a modem of the plant by its address, of 12 hexadecimal digits, and whose it is
unfoldable pub sender_in : PlantFields → List ℕ → FieldResult Sender
sender_in plant field = sender_at plant.rows (decode_sized field 6)

-- the operator of the row has this name
abbrev pub is_named : List ℕ → RowFields → Bool
is_named name row = bytes_eq row.name name

-- an operator by its name
abbrev pub operator_in : PlantFields → List ℕ → FieldResult ℕ
operator_in plant field = required_field UnknownOperator (position_from (is_named field) 0 plant.rows)

-- ---- the steps of a line, each with the line's number

-- something is received of a modem, and its operator handles it
abbrev pub heard_steps : ℕ → Sender → Heard → List LineStep
heard_steps number sender heard =
    record { number = number; step = Arrive sender.modem heard; place = Some sender.op }
    ∷ record { number = number; step = Work sender.op; place = None } ∷ []

-- `M address message`
unfoldable pub message_steps : PlantFields → ℕ → List (List ℕ) → FieldResult (List LineStep)
message_steps plant number fields = do
  two ← two_of fields
  sender ← sender_in plant two.0
  bytes ← bytes_in two.1
  Ok (heard_steps number sender (Message bytes))

-- the two numbers of a request, in fields 2 and 3
abbrev pub request_in : List ℕ → List ℕ → FieldResult Heard
request_in sid minislots = do
  sid ← short_in 2 Sid sid
  minislots ← short_in 3 Minislots minislots
  Ok (Request sid minislots)

-- `Q address sid minislots`
unfoldable pub request_steps : PlantFields → ℕ → List (List ℕ) → FieldResult (List LineStep)
request_steps plant number fields = do
  three ← three_of FieldCount fields
  sender ← sender_in plant three.0
  request ← request_in three.1 three.2
  Ok (heard_steps number sender request)

-- an operator ticks, and its frame is collected
abbrev pub tick_steps : ℕ → ℕ → List LineStep
tick_steps number op =
    record { number = number; step = Tick op; place = None } ∷ record { number = number; step = Collect op; place = None } ∷ []

-- the operators from one on, so many of them, in order
abbrev pub all_ticks : ℕ → List RowFields → ℕ → List LineStep
all_ticks number [] op = []
all_ticks number (row ∷ rows) op = tick_steps number op ++ all_ticks number rows (op + 1)

-- `T` or `T operator`
unfoldable pub ticked_steps : PlantFields → ℕ → List (List ℕ) → FieldResult (List LineStep)
ticked_steps plant number [] = Ok (all_ticks number plant.rows 0)
ticked_steps plant number (name ∷ []) = do
  op ← operator_in plant name
  Ok (tick_steps number op)
ticked_steps plant number (name ∷ other ∷ fields) = Err FieldCount

-- `start/length/budget`, in a field of this number
unfoldable pub share_in : ℕ → List ℕ → FieldResult SliceRow
share_in field text = do
  three ← three_of (SliceParts field) (parts_of 47 text)
  start ← short_in field Start three.0
  length ← short_in field Length three.1
  budget ← short_in field Budget three.2
  Ok (record { start = start; length = length; budget = budget })

-- the slices from one on, after those of the fields from 2 on
abbrev pub shares_after : List SliceRow → List (List ℕ) → FieldResult (List SliceRow)
shares_after rows [] = Ok rows
shares_after rows (text ∷ fields) = share_in (length rows + 2) text >>= λ row. shares_after (rows ++ row ∷ []) fields

-- one for each operator
abbrev pub shares_in : PlantFields → List (List ℕ) → FieldResult (List SliceRow)
shares_in plant fields = if length fields == length plant.rows then shares_after [] fields else Err FieldCount

-- `Z from share share ..`
unfoldable pub resliced_steps : PlantFields → ℕ → List (List ℕ) → FieldResult (List LineStep)
resliced_steps plant number [] = Err FieldCount
resliced_steps plant number (first ∷ fields) = do
  from ← number_in 1 Frame 10 4294967295 first
  rows ← shares_in plant fields
  Ok (record { number = number; step = Reslice from rows; place = None } ∷ [])

-- by the first field
unfoldable pub steps_in : PlantFields → ℕ → List (List ℕ) → FieldResult (List LineStep)
steps_in plant number [] = Err UnknownCommand
steps_in plant number (word ∷ fields) =
    if bytes_eq word (codes "M") then message_steps plant number fields else
    if bytes_eq word (codes "Q") then request_steps plant number fields else
    if bytes_eq word (codes "T") then ticked_steps plant number fields else
    if bytes_eq word (codes "Z") then resliced_steps plant number fields else
    Err UnknownCommand

-- the steps that one line says, or that it is invalid; an empty line says none
unfoldable pub line_steps : PlantFields → ℕ → List ℕ → FieldResult (List LineStep)
line_steps plant number line = if length line == 0 then Ok [] else steps_in plant number (line_fields line)

-- ---- the steps of a script

-- the steps of lines, after those before them; else the number of the first invalid line
abbrev pub steps_after : PlantFields → ℕ → List LineStep → List (List ℕ) → Result (List LineStep) ℕ
steps_after plant number steps [] = Ok steps
steps_after plant number steps (line ∷ lines) = elim (line_steps plant number line) [
  | Ok more ↦ steps_after plant (number + 1) (steps ++ more) lines
  | Err fault ↦ Err number
]

-- the steps of all lines of a script, each with its line's number, or the number of the first invalid line; lines are counted from 1
unfoldable pub steps_of : PlantFields → List ℕ → Result (List LineStep) ℕ
steps_of plant script = steps_after plant 1 [] (lines_of script)

-- the steps alone, without the numbers of their lines
abbrev pub steps_without_numbers : List LineStep → List Step
steps_without_numbers lines = map (λ line. line.step) lines

-- what arrives is placed at the operator that lists its modem
abbrev pub ArePlaced : PlantFields → List LineStep → Type 0
ArePlaced plant lines = All (λ line. IsPlaced plant line.step line.place) lines
