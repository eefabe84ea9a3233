-- What a plant file says of its operators: the keys of each in their order, and the first fault (implementation-specific).
use Rattle.std.specs.Prelude.{codes, ℕ, ◌+◌, ◌&&◌, nat_le, Bool, not, List, [], length, All, IsSome, Option, Some, None, is_some, if◌then◌else◌, Ok, Err}
use Rattle.std.specs.List.{list_any}
use Rattle.std.specs.Str.{bytes_eq}
use Rattle.toml.specs.Data.{Data, Members, get_member, as_array}
use Rattle.lists.specs.Results.{◌>>=◌}
use Rattle.dsx_messages.specs.declared.modem.Modem.{Modem}
use Rattle.admission.specs.Free.{Numbers}
use Rattle.grant_policy.specs.declared.policy.Policy.{Policy}
use Rattle.grant_policy.specs.declared.policy.Policy.TheVariants.{Strict, Aged, Short}
use Rattle.slice_scheduler.specs.Minislots.{Minislots}
use Rattle.plant.specs.declared.consts.ConstsFields.{ConstsFields}
use Rattle.plant.specs.declared.operator_row.RowFields.{RowFields}
use Rattle.plant.specs.declared.provision.Provision.{Provision}
use Rattle.slice_table.specs.declared.plant_fault.PlantFault.TheVariants.{BadValue}
use Rattle.slice_table.specs.declared.plant_key.Field.{Field}
use Rattle.slice_table.specs.declared.plant_key.Field.TheVariants as field
use Rattle.slice_table.specs.declared.plant_key.Place.{Place}
use Rattle.slice_table.specs.declared.plant_key.Place.TheVariants as place
use Rattle.slice_table.specs.declared.plant_key.Key.TheVariants.{Operators, Entry}
use Rattle.slice_table.specs.declared.ranges.Bounds.{Bounds}
use Rattle.plant.specs.Provisioned.{sets_of_encoding}
use Rattle.plant.specs.Name.{is_operator_name}
use Rattle.plant.specs.Row.{is_listed}
use Rattle.slice_table.specs.Ranges.{range_of}
use Rattle.slice_table.specs.Tree.{PlantResult, each, items_len, required_value, expected_value, checked_value, at_field, number_of_key, pair_at, text_at, bytes_at, array_at, modem_of, modem_at, table_of}

-- ---- an operator's own keys

-- an operator of that name
abbrev pub is_called : List ℕ → RowFields → Bool
is_called name row = bytes_eq row.name name

-- the name of an operator: no earlier operator has it
unfoldable pub name_at : List RowFields → Place → Members → PlantResult (List ℕ)
name_at rows place ms = do
  text ← text_at place field.Name ms
  checked_value (Entry place field.Name) (is_operator_name text && not (list_any (is_called text) rows)) text

-- minislots after the head and within the frame
unfoldable pub fits_frame : ConstsFields → ℕ → ℕ → Bool
fits_frame consts start length = (nat_le consts.channel.head start && nat_le 1 length) && nat_le (start + length) consts.channel.frame_minislots

-- the slice of an operator: its first minislot and how many there are
unfoldable pub slice_at : ConstsFields → Place → Members → PlantResult Minislots
slice_at consts place ms = do
  pair ← pair_at place field.Slice ms
  checked_value (Entry place field.Slice) (fits_frame consts pair.0 pair.1) (record { start = pair.0; length = pair.1 })

-- the first and the last number, within the key's range
unfoldable pub is_range : Bounds → ℕ → ℕ → Bool
is_range range first last = (nat_le range.low first && nat_le first last) && nat_le last range.high

-- a range of identifiers: its first and its last number
unfoldable pub range_at : Place → Field → Members → PlantResult Numbers
range_at place field ms = do
  pair ← pair_at place field ms
  checked_value (Entry place field) (is_range (range_of field) pair.0 pair.1) (record { first = pair.0; last = pair.1 })

-- the policy "aged" has a step
unfoldable pub aged_at : Place → Members → PlantResult Policy
aged_at place ms = do
  step ← number_of_key place field.Step ms
  Ok (Aged step)

-- the policy of this name: "strict", "aged" or "short"
unfoldable pub policy_named : List ℕ → Place → Members → PlantResult Policy
policy_named text place ms =
    if bytes_eq text (codes "strict") then Ok Strict else
    if bytes_eq text (codes "aged") then aged_at place ms else
    if bytes_eq text (codes "short") then Ok Short else
    Err (BadValue (Entry place field.Policy))

-- the policy of an operator
unfoldable pub policy_at : Place → Members → PlantResult Policy
policy_at place ms = do
  text ← text_at place field.Policy ms
  policy_named text place ms

-- 1 to 1,024 modems
abbrev pub modem_read : Place → List Modem → Data → PlantResult Modem
modem_read place done d = modem_of (Entry place field.Modems) d

-- the modems of an operator
unfoldable pub modems_at : Place → Members → PlantResult (List Modem)
modems_at place ms = do
  ds ← array_at place field.Modems ms
  few ← checked_value (Entry place field.Modems) (nat_le 1 (items_len ds) && nat_le (items_len ds) 1024) ds
  each (modem_read place) [] few

-- ---- its provisioned flows

-- one of the operator's modems
unfoldable pub own_modem_at : List Modem → Place → Members → PlantResult Modem
own_modem_at modems place ms = do
  modem ← modem_at place field.Modem ms
  checked_value (Entry place field.Modem) (is_listed modem modems) modem

-- whether a flow is given sets by its encoding
unfoldable pub has_sets : ConstsFields → Provision → Bool
has_sets consts p = is_some (sets_of_encoding consts p.encoding)

-- each of these flows is given sets by its encoding
abbrev pub HaveSets : ConstsFields → List Provision → Type 0
HaveSets consts ps = All (λ p. IsSome (sets_of_encoding consts p.encoding)) ps

-- a provisioned flow: its modem and its encoding
unfoldable pub provision_at : ConstsFields → List Modem → Place → Members → PlantResult Provision
provision_at consts modems place ms = do
  modem ← own_modem_at modems place ms
  encoding ← bytes_at place field.Encoding ms
  checked_value (Entry place field.Encoding) (has_sets consts (record { modem = modem; encoding = encoding })) (record { modem = modem; encoding = encoding })

-- a provisioned flow after those before it
unfoldable pub provision_read : ConstsFields → ℕ → List Modem → List Provision → Data → PlantResult Provision
provision_read consts operator modems done d = do
  table ← table_of (place.Flow operator (length done)) d
  provision_at consts modems (place.Flow operator (length done)) table

-- the provisioned flows of an array, in order
unfoldable pub provisions_in : ConstsFields → ℕ → List Modem → Data → PlantResult (List Provision)
provisions_in consts operator modems d = do
  ds ← expected_value (Entry (place.Operator operator) field.Flow) (as_array d)
  each (provision_read consts operator modems) [] ds

-- none where there is no such array
abbrev pub provisions_if : ConstsFields → ℕ → List Modem → Option Data → PlantResult (List Provision)
provisions_if consts operator modems None = Ok []
provisions_if consts operator modems (Some d) = provisions_in consts operator modems d

-- ---- an operator, and all of them

-- an operator: its keys in their order
unfoldable pub row_at : ConstsFields → List RowFields → ℕ → Members → PlantResult RowFields
row_at consts rows operator ms = do
  name ← name_at rows (place.Operator operator) ms
  slice ← slice_at consts (place.Operator operator) ms
  sfids ← range_at (place.Operator operator) field.Sfids ms
  sids ← range_at (place.Operator operator) field.Sids ms
  flows ← number_of_key (place.Operator operator) field.Flows ms
  transactions ← number_of_key (place.Operator operator) field.Transactions ms
  inbox ← number_of_key (place.Operator operator) field.Inbox ms
  budget ← number_of_key (place.Operator operator) field.Budget ms
  elements ← number_of_key (place.Operator operator) field.Elements ms
  policy ← policy_at (place.Operator operator) ms
  modems ← modems_at (place.Operator operator) ms
  provisions ← provisions_if consts operator modems (at_field field.Flow ms)
  Ok (record {
    name = name;
    slice = slice;
    sfids = sfids;
    sids = sids;
    flows = flows;
    transactions = transactions;
    inbox = inbox;
    budget = budget;
    elements = elements;
    policy = policy;
    modems = modems;
    provisions = provisions;
  })

-- an operator after those before it
unfoldable pub row_read : ConstsFields → List RowFields → Data → PlantResult RowFields
row_read consts rows d = do
  table ← table_of (place.Operator (length rows)) d
  row_at consts rows (length rows) table

-- 1 to 32
unfoldable pub rows_of : ConstsFields → Members → PlantResult (List RowFields)
rows_of consts ms = do
  d ← required_value Operators (get_member (codes "operator") ms)
  ds ← expected_value Operators (as_array d)
  few ← checked_value Operators (nat_le 1 (items_len ds) && nat_le (items_len ds) 32) ds
  each (row_read consts) [] few
