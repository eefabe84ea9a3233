-- The Alloc Start Time of frames under other numbers (CM-SP-MULPIv3.1, 6.4.4).
use Rattle.std.specs.Prelude.{◌≡◌, ℕ, ◌≤◌, List}
use Rattle.plant.specs.declared.consts.Channel.{Channel}
use Rattle.slice_scheduler.specs.declared.elements.ElementsFields.{ElementsFields}
use Rattle.map_assembly.specs.Map.{frame_start, map_of}
use Rattle.frame_numbers.specs.Renumbered.{number_moved}

-- the frame that is called `to` has the Alloc Start Time that it has as `from`
abbrev pub KeepsTime : Channel → ℕ → ℕ → Type 0
KeepsTime channel from to = frame_start channel to ≡ frame_start channel from

-- where a frame keeps its Alloc Start Time, so does each later frame, and its MAP is the same
abbrev pub TimeGoesOn : Type 0
TimeGoesOn = (channel : Channel) (from to number : ℕ) (parts : List ElementsFields) → KeepsTime channel from to → from ≤ number
    → KeepsTime channel number (number_moved from to number)
    × (map_of channel (number_moved from to number) parts ≡ map_of channel number parts)
