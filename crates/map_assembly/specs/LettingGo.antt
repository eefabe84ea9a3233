-- Slices that no frame to come needs are dropped (implementation-specific).
use Rattle.std.specs.Prelude.{◌≡◌, ℕ, ◌≤◌, Bool, false, nat_le, List, ◌++◌, slice_get, Option, Some, None}
use Rattle.map_assembly.specs.declared.slicing.Reslicing.{Reslicing}
use Rattle.map_assembly.specs.Gathering.{Gathering, frame_slices}

-- all goes on alike: the same parts wait for the same MAPs, some earlier slice changes may be gone, and each frame to come has
-- the same slices
pub record GoesOnAlike (old new : Gathering) : Type 0 where
  pub channel_is : new.channel ≡ old.channel
  pub quotas_are : new.quotas ≡ old.quotas
  pub queues_are : new.queues ≡ old.queues
  pub next_is : new.next ≡ old.next
  pub left : (gone : List Reslicing) × (old.reslicings ≡ gone ++ new.reslicings)
  pub slices_are : (frame : ℕ) → old.next ≤ frame → frame_slices new frame ≡ frame_slices old frame

-- a slice change, if there is one, is from this frame on or from an earlier one
abbrev pub is_from : ℕ → Option Reslicing → Bool
is_from frame None = false
is_from frame (Some reslicing) = nat_le reslicing.from frame

-- the earliest slice change is from the next frame on, or from one before it: no frame to come has the slices before it
abbrev pub has_begun : Gathering → Bool
has_begun g = is_from g.next (slice_get g.reslicings 0)
