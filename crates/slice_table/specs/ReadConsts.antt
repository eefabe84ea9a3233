-- What a plant file says of what all operators share: its keys in their order, and the first fault (implementation-specific).
use Rattle.std.specs.Prelude.{codes, ℕ, ◌≤◌, ◌&&◌, nat_le, Bool, not, List, [], length, Option, Some, None, is_none, Result, Ok, Err}
use Rattle.std.specs.Char.{is_ascii_alphanumeric}
use Rattle.std.specs.List.{list_all, list_any}
use Rattle.toml.specs.Data.{Data, Members, get_member, as_array}
use Rattle.lists.specs.Results.{◌>>=◌}
use Rattle.tlv24.specs.declared.fields.FlowFields.{FlowFields}
use Rattle.tlv24.specs.declared.fault.FlowFault.{FlowFault}
use Rattle.tlv24.specs.Flow.{flow_of}
use Rattle.param_sets.specs.Units.{UnitSizes}
use Rattle.transactions.specs.Waits.{Waits}
use Rattle.plant.specs.declared.class_table.Class.{Class}
use Rattle.plant.specs.declared.consts.Backoffs.{Backoffs}
use Rattle.plant.specs.declared.consts.ConstsFields.{ConstsFields}
use Rattle.slice_table.specs.declared.read_consts.PlantKeys.{PlantKeys}
use Rattle.slice_table.specs.declared.plant_fault.PlantFault.TheVariants.{BadValue}
use Rattle.slice_table.specs.declared.plant_key.Key.{Key}
use Rattle.slice_table.specs.declared.plant_key.Key.TheVariants.{Classes, Entry}
use Rattle.slice_table.specs.declared.plant_key.Place.{Place}
use Rattle.slice_table.specs.declared.plant_key.Place.TheVariants as place
use Rattle.slice_table.specs.declared.plant_key.Field.TheVariants as field
use Rattle.plant.specs.Classes.{is_class_named}
use Rattle.plant.specs.Consts.{IsChannel}
use Rattle.slice_table.specs.Tree.{PlantResult, each, items_len, required_value, expected_value, checked_value, number_at, number_of_key, text_at, bytes_at, table_of}

-- ---- the table `plant`

-- the length of a frame in microseconds, and the bytes of a minislot
unfoldable pub units_at : Members → PlantResult UnitSizes
units_at ms = do
  frame_us ← number_of_key place.Plant field.FrameUs ms
  bytes_per_minislot ← number_of_key place.Plant field.BytesPerMinislot ms
  Ok (record { frame_us = frame_us; bytes_per_minislot = bytes_per_minislot })

-- the ranging and the data backoffs, each with its start and its end (6.4.4)
unfoldable pub backoffs_at : Members → PlantResult Backoffs
backoffs_at ms = do
  ranging_start ← number_of_key place.Plant field.RangingStart ms
  ranging_end ← number_of_key place.Plant field.RangingEnd ms
  data_start ← number_of_key place.Plant field.DataStart ms
  data_end ← number_of_key place.Plant field.DataEnd ms
  Ok (record { ranging_start = ranging_start; ranging_end = ranging_end; data_start = data_start; data_end = data_end })

-- the timers of responses, in ticks: `ack_wait`, `resends` and `hold`
unfoldable pub timers_at : Members → PlantResult Waits
timers_at ms = do
  ack_wait ← number_of_key place.Plant field.AckWait ms
  resends ← number_of_key place.Plant field.Resends ms
  hold ← number_of_key place.Plant field.Hold ms
  Ok (record { ack_wait = ack_wait; resends = resends; hold = hold })

-- the keys of the table `plant`, in their order
unfoldable pub plant_keys_at : Members → PlantResult PlantKeys
plant_keys_at ms = do
  frame_minislots ← number_of_key place.Plant field.FrameMinislots ms
  head ← number_at place.Plant field.Head 0 frame_minislots ms
  units ← units_at ms
  short_max ← number_of_key place.Plant field.ShortMax ms
  id ← number_of_key place.Plant field.Channel ms
  ucd_count ← number_of_key place.Plant field.UcdCount ms
  backoffs ← backoffs_at ms
  timers ← timers_at ms
  first_frame ← number_of_key place.Plant field.FirstFrame ms
  Ok (record {
    channel = record { frame_minislots = frame_minislots; head = head; id = id; ucd_count = ucd_count; backoffs = backoffs; first_frame = first_frame };
    units = units;
    short_max = short_max;
    timers = timers;
  })

-- where there is no table `plant`, its first key is missing
unfoldable pub plant_keys_of : Members → PlantResult PlantKeys
plant_keys_of ms = do
  d ← required_value (Entry place.Plant field.FrameMinislots) (get_member (codes "plant") ms)
  table ← table_of place.Plant d
  plant_keys_at table

-- ---- the array `class`

-- 1 to 15 ASCII letters or digits
unfoldable pub is_class_name : List ℕ → Bool
is_class_name text = (nat_le 1 (length text) && nat_le (length text) 15) && list_all is_ascii_alphanumeric text

-- the name of a class: no earlier class has it
unfoldable pub class_name_at : List Class → Place → Members → PlantResult (List ℕ)
class_name_at classes place ms = do
  text ← text_at place field.Name ms
  checked_value (Entry place field.Name) (is_class_name text && not (list_any (is_class_named text) classes)) text

-- whether it states none of the subtypes 1 to 6
unfoldable pub states_parameters : FlowFields → Bool
states_parameters flow = ((is_none flow.reference && is_none flow.sfid) && (is_none flow.sid && is_none flow.class_name))
    && (is_none flow.errored && is_none flow.set_type)

-- the encoding of a class
abbrev pub parameters_in : Key → Result FlowFields FlowFault → PlantResult FlowFields
parameters_in key (Ok flow) = checked_value key (states_parameters flow) flow
parameters_in key (Err fault) = Err (BadValue key)

-- the encoding of the class at a place
unfoldable pub class_encoding_at : Place → Members → PlantResult FlowFields
class_encoding_at place ms = do
  bytes ← bytes_at place field.Encoding ms
  parameters_in (Entry place field.Encoding) (flow_of bytes)

-- a class after those before it
unfoldable pub class_read : List Class → Data → PlantResult Class
class_read classes d = do
  table ← table_of (place.Class (length classes)) d
  name ← class_name_at classes (place.Class (length classes)) table
  encoding ← class_encoding_at (place.Class (length classes)) table
  Ok (record { name = name; encoding = encoding })

-- at most 64
unfoldable pub classes_in : Data → PlantResult (List Class)
classes_in d = do
  ds ← expected_value Classes (as_array d)
  few ← checked_value Classes (nat_le (items_len ds) 64) ds
  each class_read [] few

-- none where there is no such array
abbrev pub classes_if : Option Data → PlantResult (List Class)
classes_if None = Ok []
classes_if (Some d) = classes_in d

-- ---- what all operators share

-- the keys of the table `plant`, and the classes
abbrev pub with_classes : PlantKeys → List Class → ConstsFields
with_classes keys classes = record {
  channel = keys.channel;
  units = keys.units;
  short_max = keys.short_max;
  timers = keys.timers;
  classes = classes;
}

-- what all operators share: the table `plant` first, then the classes
unfoldable pub consts_of : Members → PlantResult ConstsFields
consts_of ms = do
  keys ← plant_keys_of ms
  classes ← classes_if (get_member (codes "class") ms)
  Ok (with_classes keys classes)

-- the keys of the table `plant`, each in its range
pub record AreKeys (keys : PlantKeys) : Type 0 where
  pub channel : IsChannel keys.channel
  pub short_max : keys.short_max ≤ 4096
