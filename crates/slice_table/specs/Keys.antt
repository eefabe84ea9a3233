-- How the keys of a plant file are written, and where they are said to be (implementation-specific).
use Rattle.std.specs.Prelude.{codes, ℕ, List, ◌++◌}
use Rattle.std.specs.Fmt.{decimal}
use Rattle.slice_table.specs.declared.plant_key.Field.{Field}
use Rattle.slice_table.specs.declared.plant_key.Field.TheVariants as field
use Rattle.slice_table.specs.declared.plant_key.Place.{Place}
use Rattle.slice_table.specs.declared.plant_key.Place.TheVariants as place
use Rattle.slice_table.specs.declared.plant_key.Key.{Key}
use Rattle.slice_table.specs.declared.plant_key.Key.TheVariants as key

-- how each key is written
unfoldable pub field_text : Field → List ℕ
field_text field.FrameMinislots = codes "frame_minislots"
field_text field.Head = codes "head"
field_text field.FrameUs = codes "frame_us"
field_text field.BytesPerMinislot = codes "bytes_per_minislot"
field_text field.ShortMax = codes "short_max"
field_text field.Channel = codes "channel"
field_text field.UcdCount = codes "ucd_count"
field_text field.RangingStart = codes "ranging_start"
field_text field.RangingEnd = codes "ranging_end"
field_text field.DataStart = codes "data_start"
field_text field.DataEnd = codes "data_end"
field_text field.AckWait = codes "ack_wait"
field_text field.Resends = codes "resends"
field_text field.Hold = codes "hold"
field_text field.FirstFrame = codes "first_frame"
field_text field.Name = codes "name"
field_text field.Encoding = codes "encoding"
field_text field.Slice = codes "slice"
field_text field.Sfids = codes "sfids"
field_text field.Sids = codes "sids"
field_text field.Flows = codes "flows"
field_text field.Transactions = codes "transactions"
field_text field.Inbox = codes "inbox"
field_text field.Budget = codes "budget"
field_text field.Elements = codes "elements"
field_text field.Policy = codes "policy"
field_text field.Step = codes "step"
field_text field.Modems = codes "modems"
field_text field.Flow = codes "flow"
field_text field.Modem = codes "modem"

-- a table of an array is counted from 0
abbrev pub place_text : Place → List ℕ
place_text place.Plant = codes "plant"
place_text (place.Class class) = codes "class[" ++ decimal class ++ codes "]"
place_text (place.Operator operator) = codes "operator[" ++ decimal operator ++ codes "]"
place_text (place.Flow operator flow) = codes "operator[" ++ decimal operator ++ codes "].flow[" ++ decimal flow ++ codes "]"

-- the key of a table is after its place and a dot
abbrev pub key_text : Key → List ℕ
key_text key.Classes = codes "class"
key_text key.Operators = codes "operator"
key_text (key.Table place) = place_text place
key_text (key.Entry place field) = place_text place ++ codes "." ++ field_text field
