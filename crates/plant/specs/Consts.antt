-- What all operators of a plant share (implementation-specific; the backoffs: CM-SP-MULPIv3.1, 6.4.4).
use Rattle.std.specs.Prelude.{◌≡◌, ◌≤◌, All, Contains}
use Rattle.plant.specs.declared.consts.Backoffs.{Backoffs}
use Rattle.plant.specs.declared.consts.Channel.{Channel}
use Rattle.plant.specs.declared.consts.ConstsFields.{ConstsFields}
use Rattle.plant.specs.Classes.{AreClasses}

-- each backoff is the exponent of a window: 0 to 15
pub record AreBackoffs (backoffs : Backoffs) : Type 0 where
  pub ranging_start : backoffs.ranging_start ≤ 15
  pub ranging_end : backoffs.ranging_end ≤ 15
  pub data_start : backoffs.data_start ≤ 15
  pub data_end : backoffs.data_end ≤ 15

-- the keys of the channel are in their ranges: a frame has 1 to 4,096 minislots, its head is of these, and each backoff is valid
pub record IsChannel (channel : Channel) : Type 0 where
  pub some_frame : 1 ≤ channel.frame_minislots
  pub frame : channel.frame_minislots ≤ 4096
  pub head : channel.head ≤ channel.frame_minislots
  pub backoffs : AreBackoffs channel.backoffs

-- a short grant is not longer than the longest frame
pub record AreConsts (consts : ConstsFields) : Type 0 where
  pub channel : IsChannel consts.channel
  pub short_max : consts.short_max ≤ 4096
  pub classes : AreClasses consts.classes

-- The channel, the units, the longest short grant and the timers are the same, and each class of the old table is in the new one,
-- unchanged, at any place. So classes may be added.
pub record KeepsConsts (old new : ConstsFields) : Type 0 where
  pub channel : new.channel ≡ old.channel
  pub units : new.units ≡ old.units
  pub short_max : new.short_max ≡ old.short_max
  pub timers : new.timers ≡ old.timers
  pub classes : All (λ class. Contains new.classes class) old.classes
