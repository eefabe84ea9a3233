-- Which keys of a plant file have to be there, and what may be under each (implementation-specific).
-- This is written apart from the reader in `slice_table`, so a slip in one of the two is noticed: only the ranges and defaults of numbers
-- are shared.
use Rattle.std.specs.Prelude.{◌≡◌, ◌≢◌, ℕ, ◌+◌, ◌<◌, ◌≤◌, ◌⊎◌, pos, codes, IsTrue, IsSome, IsNone, List, length, Some, Ok}
use Rattle.std.specs.Char.{is_ascii_alphanumeric}
use Rattle.std.specs.List.{list_all}
use Rattle.toml.specs.Data.{Data, string, integer, array, table, Items, no_items, item, Members}
use Rattle.hex.specs.Hex.{decode_of}
use Rattle.tlv24.specs.Flow.{flow_of}
use Rattle.tlv24.specs.declared.fields.FlowFields.{FlowFields}
use Rattle.dsx_messages.specs.declared.modem.Modem.{Modem}
use Rattle.plant.specs.declared.consts.ConstsFields.{ConstsFields}
use Rattle.slice_table.specs.declared.plant_key.Field.{Field}
use Rattle.slice_table.specs.declared.plant_key.Field.TheVariants as field
use Rattle.slice_table.specs.declared.plant_key.Place.TheVariants as place
use Rattle.slice_table.specs.declared.plant_key.Key.{Key}
use Rattle.slice_table.specs.declared.plant_key.Key.TheVariants.{Classes, Operators, Table, Entry}
use Rattle.plant.specs.Name.{IsOperatorName}
use Rattle.plant.specs.Classes.{StatesParameters}
use Rattle.plant.specs.Provisioned.{sets_of_encoding}
use Rattle.plant.specs.Row.{is_listed, IsFrom}
use Rattle.slice_table.specs.Ranges.{range_of, default_of}
use Rattle.slice_table.specs.Tree.{items_len}
use Rattle.slice_table.specs.Says.{two, IsAddress, SaysConsts, SaysModems}
use Rattle.slice_table.specs.file_keys.Held.{table_in, standing_at, value_of_key}

-- ---- what may be under a key

-- a number as a value of TOML
abbrev pub number : ℕ → Data
number n = integer (pos n)

-- a number from low to high
abbrev pub IsNumber : ℕ → ℕ → Data → Type 0
IsNumber low high d = (n : ℕ) × (d ≡ number n) × (low ≤ n) × (n ≤ high)

-- a number of the key's range
abbrev pub IsNumberIn : Field → Data → Type 0
IsNumberIn f d = IsNumber (range_of f).low (range_of f).high d

-- the first and the last number of a range, within the key's range
abbrev pub IsRange : Field → Data → Type 0
IsRange f d =
    (first : ℕ) × (last : ℕ) × (d ≡ two first last) × ((range_of f).low ≤ first) × (first ≤ last) × (last ≤ (range_of f).high)

-- a table
abbrev pub IsTable : Data → Type 0
IsTable d = (ms : Members) × (d ≡ table ms)

-- an array with a number of items from low to high
abbrev pub IsArray : ℕ → ℕ → Data → Type 0
IsArray low high d = (ds : Items) × (d ≡ array ds) × (low ≤ items_len ds) × (items_len ds ≤ high)

-- each item
abbrev pub AllItems : (Data → Type 0) → Items → Type 0
AllItems P no_items = Unit {0}
AllItems P (item d ds) = P d × AllItems P ds

-- a text of hexadecimal digits, two for each of these bytes
abbrev pub IsHexadecimal : List ℕ → Data → Type 0
IsHexadecimal bytes d = (text : List ℕ) × (d ≡ string text) × (decode_of text ≡ Ok bytes)

-- ---- of the table `plant`

-- the head is within the frame
abbrev pub IsHead : Members → Data → Type 0
IsHead document d = (frame : ℕ) × (value_of_key document (Entry place.Plant field.FrameMinislots) ≡ Some (number frame)) × IsNumber 0 frame d

-- what may be under each key of the table `plant`
abbrev pub OfPlant : Members → Field → Data → Type 0
OfPlant document field.FrameMinislots d = IsNumberIn field.FrameMinislots d
OfPlant document field.Head d = IsHead document d
OfPlant document field.FrameUs d = IsNumberIn field.FrameUs d
OfPlant document field.BytesPerMinislot d = IsNumberIn field.BytesPerMinislot d
OfPlant document field.ShortMax d = IsNumberIn field.ShortMax d
OfPlant document field.Channel d = IsNumberIn field.Channel d
OfPlant document field.UcdCount d = IsNumberIn field.UcdCount d
OfPlant document field.RangingStart d = IsNumberIn field.RangingStart d
OfPlant document field.RangingEnd d = IsNumberIn field.RangingEnd d
OfPlant document field.DataStart d = IsNumberIn field.DataStart d
OfPlant document field.DataEnd d = IsNumberIn field.DataEnd d
OfPlant document field.AckWait d = IsNumberIn field.AckWait d
OfPlant document field.Resends d = IsNumberIn field.Resends d
OfPlant document field.Hold d = IsNumberIn field.Hold d
OfPlant document field.FirstFrame d = IsNumberIn field.FirstFrame d
OfPlant document other d = ⊥

-- ---- of a class

-- 1 to 15 letters or digits, and no earlier class's
abbrev pub IsNewClassName : Members → ℕ → Data → Type 0
IsNewClassName document class d =
    (name : List ℕ) × (d ≡ string name) × (1 ≤ length name) × (length name ≤ 15) × IsTrue (list_all is_ascii_alphanumeric name)
    × ((earlier : ℕ) → earlier < class → value_of_key document (Entry (place.Class earlier) field.Name) ≢ Some d)

-- a flow encoding that states none of the subtypes 1 to 6
abbrev pub IsClassEncoding : Data → Type 0
IsClassEncoding d =
    (bytes : List ℕ) × (flow : FlowFields) × IsHexadecimal bytes d × (flow_of bytes ≡ Ok flow) × StatesParameters flow

-- what may be under each key of a class
abbrev pub OfClass : Members → ℕ → Field → Data → Type 0
OfClass document class field.Name d = IsNewClassName document class d
OfClass document class field.Encoding d = IsClassEncoding d
OfClass document class other d = ⊥

-- ---- of an operator

-- 1 to 16 letters or digits, and no earlier operator's
abbrev pub IsName : Members → ℕ → Data → Type 0
IsName document operator d =
    (name : List ℕ) × (d ≡ string name) × IsOperatorName name
    × ((earlier : ℕ) → earlier < operator → value_of_key document (Entry (place.Operator earlier) field.Name) ≢ Some d)

-- the first minislot and how many there are, after the head and within the frame
abbrev pub IsSliceValue : Members → Data → Type 0
IsSliceValue document d =
    (consts : ConstsFields) × (start : ℕ) × (length : ℕ) × SaysConsts document consts × (d ≡ two start length)
    × (consts.channel.head ≤ start) × (1 ≤ length) × (start + length ≤ consts.channel.frame_minislots)

-- the name of a policy
abbrev pub IsPolicy : Data → Type 0
IsPolicy d = (d ≡ string (codes "strict")) ⊎ ((d ≡ string (codes "aged")) ⊎ (d ≡ string (codes "short")))

-- the operator's policy is "aged"
abbrev pub IsAged : Members → ℕ → Type 0
IsAged document operator = value_of_key document (Entry (place.Operator operator) field.Policy) ≡ Some (string (codes "aged"))

-- 1 to 1,024 addresses
abbrev pub AreModems : Data → Type 0
AreModems d = (ds : Items) × (d ≡ array ds) × IsFrom 1 1024 (items_len ds) × AllItems (λ e. (modem : Modem) × IsAddress e modem) ds

-- what may be under each key of an operator
abbrev pub OfOperator : Members → ℕ → Field → Data → Type 0
OfOperator document operator field.Name d = IsName document operator d
OfOperator document operator field.Slice d = IsSliceValue document d
OfOperator document operator field.Sfids d = IsRange field.Sfids d
OfOperator document operator field.Sids d = IsRange field.Sids d
OfOperator document operator field.Flows d = IsNumberIn field.Flows d
OfOperator document operator field.Transactions d = IsNumberIn field.Transactions d
OfOperator document operator field.Inbox d = IsNumberIn field.Inbox d
OfOperator document operator field.Budget d = IsNumberIn field.Budget d
OfOperator document operator field.Elements d = IsNumberIn field.Elements d
OfOperator document operator field.Policy d = IsPolicy d
OfOperator document operator field.Step d = IsAged document operator → IsNumberIn field.Step d
OfOperator document operator field.Modems d = AreModems d
OfOperator document operator field.Flow d = (ds : Items) × (d ≡ array ds)
OfOperator document operator other d = ⊥

-- the policy "aged" has a step, and there may be no provisioned flow
abbrev pub MustOfOperator : Members → ℕ → Field → Type 0
MustOfOperator document operator field.Step = IsAged document operator
MustOfOperator document operator field.Flow = ⊥
MustOfOperator document operator other = Unit {0}

-- ---- of a provisioned flow

-- the address of one of its operator's modems
abbrev pub IsOwnModem : Members → ℕ → Data → Type 0
IsOwnModem document operator d =
    (ms : Members) × (modems : List Modem) × (modem : Modem) × (table_in (standing_at document (place.Operator operator)) ≡ Some ms)
    × SaysModems ms modems × IsAddress d modem × IsTrue (is_listed modem modems)

-- a flow encoding that gives it sets, over its class where it names one
abbrev pub GivesSets : Members → Data → Type 0
GivesSets document d =
    (consts : ConstsFields) × (bytes : List ℕ) × SaysConsts document consts × IsHexadecimal bytes d
    × IsSome (sets_of_encoding consts bytes)

-- what may be under each key of a provisioned flow
abbrev pub OfFlow : Members → ℕ → Field → Data → Type 0
OfFlow document operator field.Modem d = IsOwnModem document operator d
OfFlow document operator field.Encoding d = GivesSets document d
OfFlow document operator other d = ⊥

-- ---- of any key

-- which values each key may have: the table of docs/FORMATS.md, key by key
abbrev pub IsValueOfKey : Members → Key → Data → Type 0
IsValueOfKey document Classes d = IsArray 0 64 d
IsValueOfKey document Operators d = IsArray 1 32 d
IsValueOfKey document (Table place) d = IsTable d
IsValueOfKey document (Entry place.Plant f) d = OfPlant document f d
IsValueOfKey document (Entry (place.Class class) f) d = OfClass document class f d
IsValueOfKey document (Entry (place.Operator operator) f) d = OfOperator document operator f d
IsValueOfKey document (Entry (place.Flow operator flow) f) d = OfFlow document operator f d

-- a key of the table `plant` has to be there where it has no default; a table of an array is there by its number, and where
-- there is no table `plant` its first key is missing
abbrev pub MustStand : Members → Key → Type 0
MustStand document Classes = ⊥
MustStand document Operators = Unit {0}
MustStand document (Table place) = ⊥
MustStand document (Entry place.Plant f) = IsNone (default_of f)
MustStand document (Entry (place.Class class) f) = Unit {0}
MustStand document (Entry (place.Operator operator) f) = MustOfOperator document operator f
MustStand document (Entry (place.Flow operator flow) f) = Unit {0}
