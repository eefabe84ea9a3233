-- What a plant file says, key by key, apart from the order in which it is read (implementation-specific).
use Rattle.std.specs.Prelude.{◌≡◌, ◌≢◌, ℕ, ◌+◌, ◌≤◌, ◌⊎◌, pos, codes, IsTrue, IsSome, List, [], ◌∷◌, ◌++◌, length, All, Some, None, Ok}
use Rattle.std.specs.List.{list_all}
use Rattle.std.specs.Char.{is_ascii_alphanumeric}
use Rattle.toml.specs.Data.{Data, string, integer, array, table, Items, no_items, item, Members, get_member}
use Rattle.hex.specs.Hex.{decode_of, decode_sized}
use Rattle.tlv24.specs.Flow.{flow_of}
use Rattle.tlv24.specs.declared.fields.FlowFields.{FlowFields}
use Rattle.dsx_messages.specs.declared.modem.Modem.{Modem}
use Rattle.admission.specs.Free.{Numbers}
use Rattle.grant_policy.specs.declared.policy.Policy.{Policy}
use Rattle.grant_policy.specs.declared.policy.Policy.TheVariants.{Strict, Aged, Short}
use Rattle.slice_scheduler.specs.Minislots.{Minislots}
use Rattle.param_sets.specs.Units.{UnitSizes}
use Rattle.transactions.specs.Waits.{Waits}
use Rattle.plant.specs.declared.class_table.Class.{Class}
use Rattle.plant.specs.declared.consts.Backoffs.{Backoffs}
use Rattle.plant.specs.declared.consts.ConstsFields.{ConstsFields}
use Rattle.plant.specs.declared.operator_row.RowFields.{RowFields}
use Rattle.plant.specs.declared.plant.PlantFields.{PlantFields}
use Rattle.plant.specs.declared.provision.Provision.{Provision}
use Rattle.slice_table.specs.declared.plant_key.Field.{Field}
use Rattle.slice_table.specs.declared.plant_key.Field.TheVariants as field
use Rattle.plant.specs.Name.{IsOperatorName}
use Rattle.plant.specs.Classes.{StatesParameters}
use Rattle.plant.specs.Provisioned.{sets_of_encoding}
use Rattle.plant.specs.Row.{is_listed, IsFrom}
use Rattle.plant.specs.Plant.{IsPlant}
use Rattle.slice_table.specs.Ranges.{range_of, default_of}
use Rattle.slice_table.specs.Tree.{at_field, items_len}

-- ---- one key

-- under the key is a number from low to high
pub record SaysNumber (ms : Members) (f : Field) (low high n : ℕ) : Type 0 where
  pub held : at_field f ms ≡ Some (integer (pos n))
  pub low_enough : low ≤ n
  pub high_enough : n ≤ high

-- a number of the key's range, or no such key is there and the number is its default
abbrev pub SaysNumberIn : Members → Field → ℕ → Type 0
SaysNumberIn ms f n = ((at_field f ms ≡ None) × (default_of f ≡ Some n)) ⊎ SaysNumber ms f (range_of f).low (range_of f).high n

-- an array of exactly two numbers
abbrev pub two : ℕ → ℕ → Data
two a b = array (item (integer (pos a)) (item (integer (pos b)) no_items))

-- under the key is a text of hexadecimal digits, two for each of these bytes
abbrev pub SaysBytes : Members → Field → List ℕ → Type 0
SaysBytes ms f bytes = (text : List ℕ) × (at_field f ms ≡ Some (string text)) × (decode_of text ≡ Ok bytes)

-- a text of twelve hexadecimal digits, two for each byte of the address
abbrev pub IsAddress : Data → Modem → Type 0
IsAddress d modem = (text : List ℕ) × (d ≡ string text) × (decode_sized text 6 ≡ Ok modem.0)

-- each item of an array says one thing, next to what those before it said
abbrev pub SayInTurn : {A : Type 0} → (List A → Data → A → Type 0) → List A → Items → List A → Type 0
SayInTurn Says done no_items xs = done ≡ xs
SayInTurn {A} Says done (item d ds) xs = (x : A) × Says done d x × SayInTurn Says (done ++ x ∷ []) ds xs

-- ---- the table `plant`

-- the length of a frame in microseconds, and the bytes of a minislot
pub record SaysUnits (ms : Members) (units : UnitSizes) : Type 0 where
  pub frame_us : SaysNumberIn ms field.FrameUs units.frame_us
  pub bytes_per_minislot : SaysNumberIn ms field.BytesPerMinislot units.bytes_per_minislot

-- the ranging and the data backoffs, each with its start and its end (6.4.4)
pub record SaysBackoffs (ms : Members) (backoffs : Backoffs) : Type 0 where
  pub ranging_start : SaysNumberIn ms field.RangingStart backoffs.ranging_start
  pub ranging_end : SaysNumberIn ms field.RangingEnd backoffs.ranging_end
  pub data_start : SaysNumberIn ms field.DataStart backoffs.data_start
  pub data_end : SaysNumberIn ms field.DataEnd backoffs.data_end

-- the timers of responses, in ticks
pub record SaysTimers (ms : Members) (timers : Waits) : Type 0 where
  pub ack_wait : SaysNumberIn ms field.AckWait timers.ack_wait
  pub resends : SaysNumberIn ms field.Resends timers.resends
  pub hold : SaysNumberIn ms field.Hold timers.hold

-- the keys of the table `plant`
pub record SaysKeys (ms : Members) (consts : ConstsFields) : Type 0 where
  pub frame_minislots : SaysNumberIn ms field.FrameMinislots consts.channel.frame_minislots
  pub head : SaysNumber ms field.Head 0 consts.channel.frame_minislots consts.channel.head
  pub units : SaysUnits ms consts.units
  pub short_max : SaysNumberIn ms field.ShortMax consts.short_max
  pub id : SaysNumberIn ms field.Channel consts.channel.id
  pub ucd_count : SaysNumberIn ms field.UcdCount consts.channel.ucd_count
  pub backoffs : SaysBackoffs ms consts.channel.backoffs
  pub timers : SaysTimers ms consts.timers
  pub first_frame : SaysNumberIn ms field.FirstFrame consts.channel.first_frame

-- ---- the array `class`

-- the name of a class: 1 to 15 letters or digits, no earlier class's
pub record SaysClassName (before : List Class) (ms : Members) (name : List ℕ) : Type 0 where
  pub held : at_field field.Name ms ≡ Some (string name)
  pub some : 1 ≤ length name
  pub few : length name ≤ 15
  pub letters : IsTrue (list_all is_ascii_alphanumeric name)
  pub new : All (λ class. class.name ≢ name) before

-- what a class states: none of the subtypes 1 to 6
pub record SaysParameters (ms : Members) (flow : FlowFields) : Type 0 where
  pub bytes : List ℕ
  pub held : SaysBytes ms field.Encoding bytes
  pub stated : flow_of bytes ≡ Ok flow
  pub parameters : StatesParameters flow

-- a class: its name and what it states
pub record SaysClass (before : List Class) (d : Data) (class : Class) : Type 0 where
  pub ms : Members
  pub is : d ≡ table ms
  pub name : SaysClassName before ms class.name
  pub encoding : SaysParameters ms class.encoding

-- at most 64 classes, or no such array
abbrev pub SaysClasses : Members → List Class → Type 0
SaysClasses document classes = ((get_member (codes "class") document ≡ None) × ([] ≡ classes))
    ⊎ ((ds : Items) × (get_member (codes "class") document ≡ Some (array ds)) × (items_len ds ≤ 64) × SayInTurn SaysClass [] ds classes)

-- what all operators share
pub record SaysConsts (document : Members) (consts : ConstsFields) : Type 0 where
  pub ms : Members
  pub held : get_member (codes "plant") document ≡ Some (table ms)
  pub keys : SaysKeys ms consts
  pub classes : SaysClasses document consts.classes

-- ---- an operator

-- its name: 1 to 16 letters or digits, no earlier operator's
pub record SaysName (before : List RowFields) (ms : Members) (name : List ℕ) : Type 0 where
  pub held : at_field field.Name ms ≡ Some (string name)
  pub valid : IsOperatorName name
  pub new : All (λ row. row.name ≢ name) before

-- the slice of an operator: at least one minislot, after the head and within the frame
pub record SaysSlice (consts : ConstsFields) (ms : Members) (slice : Minislots) : Type 0 where
  pub held : at_field field.Slice ms ≡ Some (two slice.start slice.length)
  pub behind_head : consts.channel.head ≤ slice.start
  pub some : 1 ≤ slice.length
  pub within_frame : slice.start + slice.length ≤ consts.channel.frame_minislots

-- a range of identifiers, within the key's range
pub record SaysRange (ms : Members) (f : Field) (range : Numbers) : Type 0 where
  pub held : at_field f ms ≡ Some (two range.first range.last)
  pub low : (range_of f).low ≤ range.first
  pub ordered : range.first ≤ range.last
  pub most : range.last ≤ (range_of f).high

-- its policy, by its name; "aged" has a step
abbrev pub SaysPolicy : Members → Policy → Type 0
SaysPolicy ms Strict = at_field field.Policy ms ≡ Some (string (codes "strict"))
SaysPolicy ms (Aged step) = (at_field field.Policy ms ≡ Some (string (codes "aged"))) × SaysNumberIn ms field.Step step
SaysPolicy ms Short = at_field field.Policy ms ≡ Some (string (codes "short"))

-- its modems: 1 to 1,024 addresses
pub record SaysModems (ms : Members) (modems : List Modem) : Type 0 where
  pub ds : Items
  pub held : at_field field.Modems ms ≡ Some (array ds)
  pub count : IsFrom 1 1024 (items_len ds)
  pub addresses : SayInTurn (λ before. IsAddress) [] ds modems

-- a provisioned flow: of one of the operator's modems, with sets by its encoding
pub record SaysProvision (consts : ConstsFields) (modems : List Modem) (d : Data) (p : Provision) : Type 0 where
  pub ms : Members
  pub is : d ≡ table ms
  pub whose : Data
  pub held : at_field field.Modem ms ≡ Some whose
  pub modem : IsAddress whose p.modem
  pub mine : IsTrue (is_listed p.modem modems)
  pub encoding : SaysBytes ms field.Encoding p.encoding
  pub sets : IsSome (sets_of_encoding consts p.encoding)

-- its provisioned flows, or no such array
abbrev pub SaysProvisions : ConstsFields → List Modem → Members → List Provision → Type 0
SaysProvisions consts modems ms ps = ((at_field field.Flow ms ≡ None) × ([] ≡ ps))
    ⊎ ((ds : Items) × (at_field field.Flow ms ≡ Some (array ds)) × SayInTurn (λ before. SaysProvision consts modems) [] ds ps)

-- the keys of an operator say this row, next to those before it
pub record SaysRow (consts : ConstsFields) (before : List RowFields) (d : Data) (row : RowFields) : Type 0 where
  pub ms : Members
  pub is : d ≡ table ms
  pub name : SaysName before ms row.name
  pub slice : SaysSlice consts ms row.slice
  pub sfids : SaysRange ms field.Sfids row.sfids
  pub sids : SaysRange ms field.Sids row.sids
  pub flows : SaysNumberIn ms field.Flows row.flows
  pub transactions : SaysNumberIn ms field.Transactions row.transactions
  pub inbox : SaysNumberIn ms field.Inbox row.inbox
  pub budget : SaysNumberIn ms field.Budget row.budget
  pub elements : SaysNumberIn ms field.Elements row.elements
  pub policy : SaysPolicy ms row.policy
  pub modems : SaysModems ms row.modems
  pub provisions : SaysProvisions consts row.modems ms row.provisions

-- 1 to 32 operators
pub record SaysRows (consts : ConstsFields) (document : Members) (rows : List RowFields) : Type 0 where
  pub ds : Items
  pub held : get_member (codes "operator") document ≡ Some (array ds)
  pub count : IsFrom 1 32 (items_len ds)
  pub each : SayInTurn (SaysRow consts) [] ds rows

-- ---- the plant

-- a document says a plant: its keys say this plant, in no order of reading, and together they are valid
pub record SaysPlant (document : Members) (plant : PlantFields) : Type 0 where
  pub consts : SaysConsts document plant.consts
  pub rows : SaysRows plant.consts document plant.rows
  pub valid : IsPlant plant
