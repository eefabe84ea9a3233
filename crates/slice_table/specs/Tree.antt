-- What is under a key of a TOML table: a value, or the first fault (implementation-specific).
use Rattle.std.specs.Prelude.{ℕ, suc, ◌++◌, [], ◌∷◌, pos, ◌&&◌, nat_le, Bool, List, Option, Some, None, Result, Ok, Err, if◌then◌else◌}
use Rattle.toml.specs.Data.{Data, integer, Items, no_items, item, Members, get_member, as_str, as_array, as_table}
use Rattle.hex.specs.Hex.{decode_of, decode_sized}
use Rattle.hex.specs.declared.error.FromHexError.{FromHexError}
use Rattle.lists.specs.Results.{◌>>=◌}
use Rattle.dsx_messages.specs.declared.modem.Modem.{Modem}
use Rattle.slice_table.specs.declared.plant_fault.PlantFault.{PlantFault}
use Rattle.slice_table.specs.declared.plant_fault.PlantFault.TheVariants.{Missing, BadValue, NoMemory}
use Rattle.slice_table.specs.declared.plant_key.Field.{Field}
use Rattle.slice_table.specs.declared.plant_key.Place.{Place}
use Rattle.slice_table.specs.declared.plant_key.Key.{Key}
use Rattle.slice_table.specs.declared.plant_key.Key.TheVariants.{Table, Entry}
use Rattle.slice_table.specs.declared.ranges.Bounds.{Bounds}
use Rattle.slice_table.specs.Keys.{field_text}
use Rattle.slice_table.specs.Ranges.{range_of, default_of}

-- ---- a value, or the first fault

-- a value, or the first fault of a plant file
abbrev pub PlantResult : Type 0 → Type 0
PlantResult A = Result A PlantFault

-- the fault of a plant file that a fault stands for: none where memory ran out
abbrev pub plant_cause : PlantFault → Option PlantFault
plant_cause NoMemory = None
plant_cause fault = Some fault

-- the items of an array one after the other, each with those read before it
abbrev pub each : {A : Type 0} → (List A → Data → PlantResult A) → List A → Items → PlantResult (List A)
each read done no_items = Ok done
each read done (item d ds) = read done d >>= λ x. each read (done ++ x ∷ []) ds

-- how many items an array has
abbrev pub items_len : Items → ℕ
items_len no_items = 0
items_len (item d ds) = suc (items_len ds)

-- ---- faults

-- the key is missing where there is none
abbrev pub required_value : {A : Type 0} → Key → Option A → PlantResult A
required_value key None = Err (Missing key)
required_value key (Some x) = Ok x

-- what is under the key is not what is wanted where there is none
abbrev pub expected_value : {A : Type 0} → Key → Option A → PlantResult A
expected_value key None = Err (BadValue key)
expected_value key (Some x) = Ok x

-- the same where a test fails
abbrev pub checked_value : {A : Type 0} → Key → Bool → A → PlantResult A
checked_value key passes x = if passes then Ok x else Err (BadValue key)

-- ---- values

-- what is under a key
abbrev pub at_field : Field → Members → Option Data
at_field field ms = get_member (field_text field) ms

-- a number that is not negative
abbrev pub natural : Data → Option ℕ
natural (integer (pos n)) = Some n
natural d = None

-- a number from low to high
unfoldable pub number_of : Key → ℕ → ℕ → Data → PlantResult ℕ
number_of key low high d = do
  n ← expected_value key (natural d)
  checked_value key (nat_le low n && nat_le n high) n

-- the number under a key, from low to high
unfoldable pub number_at : Place → Field → ℕ → ℕ → Members → PlantResult ℕ
number_at place field low high ms = do
  d ← required_value (Entry place field) (at_field field ms)
  number_of (Entry place field) low high d

-- a number of a range; the default where the key is not there, and is missing where it has none
abbrev pub number_if : Key → Bounds → Option ℕ → Option Data → PlantResult ℕ
number_if key range default None = required_value key default
number_if key range default (Some d) = number_of key range.low range.high d

-- a number as the table of ranges says of its key
unfoldable pub number_of_key : Place → Field → Members → PlantResult ℕ
number_of_key place field ms = number_if (Entry place field) (range_of field) (default_of field) (at_field field ms)

-- two numbers, if both are there
abbrev pub both : Option ℕ → Option ℕ → Option (ℕ × ℕ)
both (Some a) (Some b) = Some (a, b)
both (Some a) None = None
both None b = None

-- the two numbers of an array of two
abbrev pub pair_in : Items → Option (ℕ × ℕ)
pair_in (item a (item b no_items)) = both (natural a) (natural b)
pair_in ds = None

-- the items of an array
unfoldable pub array_at : Place → Field → Members → PlantResult Items
array_at place field ms = do
  d ← required_value (Entry place field) (at_field field ms)
  expected_value (Entry place field) (as_array d)

-- the two numbers under a key
unfoldable pub pair_at : Place → Field → Members → PlantResult (ℕ × ℕ)
pair_at place field ms = do
  ds ← array_at place field ms
  expected_value (Entry place field) (pair_in ds)

-- a text
unfoldable pub text_at : Place → Field → Members → PlantResult (List ℕ)
text_at place field ms = do
  d ← required_value (Entry place field) (at_field field ms)
  expected_value (Entry place field) (as_str d)

-- bytes in hexadecimal
abbrev pub bytes_if_decoded : Result (List ℕ) FromHexError → Option (List ℕ)
bytes_if_decoded (Ok bytes) = Some bytes
bytes_if_decoded (Err e) = None

-- the bytes under a key, a text of hexadecimal digits
unfoldable pub bytes_at : Place → Field → Members → PlantResult (List ℕ)
bytes_at place field ms = do
  text ← text_at place field ms
  expected_value (Entry place field) (bytes_if_decoded (decode_of text))

-- the address of a modem: six bytes in hexadecimal
abbrev pub modem_in : Result (List ℕ) FromHexError → Option Modem
modem_in (Ok bytes) = Some (record { 0 = bytes })
modem_in (Err e) = None

-- an address in hexadecimal, as a modem
unfoldable pub modem_of : Key → Data → PlantResult Modem
modem_of key d = do
  text ← expected_value key (as_str d)
  expected_value key (modem_in (decode_sized text 6))

-- the modem under a key
unfoldable pub modem_at : Place → Field → Members → PlantResult Modem
modem_at place field ms = do
  d ← required_value (Entry place field) (at_field field ms)
  modem_of (Entry place field) d

-- a table
unfoldable pub table_of : Place → Data → PlantResult Members
table_of place d = expected_value (Table place) (as_table d)
