-- What a handle owns: nothing if it is closed, and what a `Box<OpenChannel>` owns if it is open (implementation-specific).
use Rattle.std.specs.Prelude.{Bool, true, false, Option, None, Some}
use base.Fml.{Fml, fsep, feq}
use base.Stored.{Coded}
use denote.RawPtr.{Ptr}
use Rattle.std.specs.Coded.{coded_option}
use Rattle.std.specs.Box.Ownership.{box_owns}
use Rattle.std.specs.Global.{Global}
use Rattle.std_heap.specs.contracts.GlobalAllocator.TheImpl.{ghosts}
use Rattle.channel_c.specs.contracts.channel.OpenChannel.{the_row}

-- a closed handle owns nothing, and an open one what a box of its channel owns
abbrev pub handle_owns : Global → Ptr → Bool → Option the_row.Denot → Fml
handle_owns alloc ptr is_open None = feq Bool is_open false
handle_owns alloc ptr is_open (Some channel) = fsep (feq Bool is_open true) (box_owns (ghosts.dealloc_token alloc) the_row ptr channel)

-- how the channel of a handle, if it is open, is kept as a value of the permission logic
abbrev pub channel_coded : Coded (Option the_row.Denot)
channel_coded = coded_option the_row.coded
