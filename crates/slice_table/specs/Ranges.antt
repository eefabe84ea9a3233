-- The keys of a plant file under which a number exists: its range, and its default where it may be left out (implementation-specific).
-- They stand here once: the reading, `Says.antt` and the laws in `file_keys` use them.
use Rattle.std.specs.Prelude.{ℕ, Option, Some, None}
use Rattle.slice_table.specs.declared.ranges.Bounds.{Bounds}
use Rattle.slice_table.specs.declared.plant_key.Field.{Field}
use Rattle.slice_table.specs.declared.plant_key.Field.TheVariants as field

-- the least and the greatest number, alone or in a pair; the head is not here, since its greatest is the frame's, and
-- the other keys have no number
abbrev pub range_of : Field → Bounds
range_of field.FrameMinislots = record { low = 1; high = 4096 }
range_of field.FrameUs = record { low = 1; high = 1000000 }
range_of field.BytesPerMinislot = record { low = 1; high = 65535 }
range_of field.ShortMax = record { low = 0; high = 4096 }
range_of field.Channel = record { low = 0; high = 255 }
range_of field.UcdCount = record { low = 0; high = 255 }
range_of field.RangingStart = record { low = 0; high = 15 }
range_of field.RangingEnd = record { low = 0; high = 15 }
range_of field.DataStart = record { low = 0; high = 15 }
range_of field.DataEnd = record { low = 0; high = 15 }
range_of field.AckWait = record { low = 1; high = 65535 }
range_of field.Resends = record { low = 0; high = 255 }
range_of field.Hold = record { low = 1; high = 65535 }
range_of field.FirstFrame = record { low = 0; high = 4294967295 }
range_of field.Sfids = record { low = 1; high = 4294967295 }
range_of field.Sids = record { low = 1; high = 8191 }
range_of field.Flows = record { low = 1; high = 1024 }
range_of field.Transactions = record { low = 1; high = 256 }
range_of field.Inbox = record { low = 1; high = 256 }
range_of field.Budget = record { low = 0; high = 4096 }
range_of field.Elements = record { low = 0; high = 235 }
range_of field.Step = record { low = 1; high = 255 }
range_of other = record { low = 1; high = 0 }

-- the number that is meant where there is no such key; the others have to be there
abbrev pub default_of : Field → Option ℕ
default_of field.RangingStart = Some 0
default_of field.RangingEnd = Some 0
default_of field.DataStart = Some 0
default_of field.DataEnd = Some 0
default_of field.AckWait = Some 150
default_of field.Resends = Some 3
default_of field.Hold = Some 1500
default_of field.FirstFrame = Some 0
default_of other = None
