-- The MAP that the last part of a frame gives (implementation-specific).
use Rattle.std.specs.Prelude.{◌≡◌, ℕ, true, false, List, length, slice_get, Option, Some, None, map}
use Rattle.slice_scheduler.specs.Minislots.{Minislots}
use Rattle.slice_scheduler.specs.declared.elements.ElementsFields.{ElementsFields}
use Rattle.map_assembly.specs.declared.element.MapElement.{MapElement}
use Rattle.plant.specs.declared.consts.Channel.{Channel}
use Rattle.map_assembly.specs.declared.map_bytes.MapBytes.{MapBytes}
use Rattle.map_assembly.specs.declared.quota.Quota.{Quota}
use Rattle.map_assembly.specs.Reading.{MapReads}
use Rattle.map_assembly.specs.Writing.{spelled_map}
use Rattle.map_assembly.specs.Map.{map_of, map_header, map_spans, map_pending, elements_of_map, map_elements_of}
use Rattle.map_assembly.specs.Tiled.{GivesNoMinislotTwice, part_of, own_part}
use Rattle.map_assembly.specs.Gathering.{Gathering, frame_slices, is_last, frame_parts, part_at}

-- the bytes of a frame's MAP: they follow from what MAPs have in common, the frame and the parts alone, to the last bit
abbrev pub bytes_of_map : Channel → ℕ → List ElementsFields → List ℕ
bytes_of_map channel frame parts =
    spelled_map (map_header channel frame (length (map_elements_of channel parts))) (map_elements_of channel parts)

-- the bytes are the MAP of a frame with these parts: they are spelled so, they say what that MAP says, it gives no minislot
-- twice, and each operator's part of it is what that operator put
pub record IsMapOf (channel : Channel) (frame : ℕ) (quotas : List Quota) (slices : List Minislots) (parts : List ElementsFields) (bytes : List ℕ) : Type 0 where
  pub bytes_are : bytes ≡ bytes_of_map channel frame parts
  pub reads : MapReads bytes (map_of channel frame parts)
  pub tiled : GivesNoMinislotTwice channel.frame_minislots quotas slices (map_of channel frame parts).spans
  pub own : (k : ℕ) (quota : Quota) (part : ElementsFields) → slice_get quotas k ≡ Some quota → slice_get parts k ≡ Some part → part_of quota.sids (map_of channel frame parts) ≡ own_part part

-- what putting a part answers: nothing where it is not the last one of its frame, else that frame's MAP
abbrev pub IsPutResult : Gathering → ℕ → ℕ → ElementsFields → Option MapBytes → Type 0
IsPutResult g op frame part None = is_last g op part ≡ false
IsPutResult g op frame part (Some made) =
    (is_last g op part ≡ true) × (frame ≡ g.next) × (made.frame ≡ frame)
    × IsMapOf g.channel frame g.quotas (frame_slices g frame) (frame_parts g op part) made.bytes

-- the elements of a frame's MAP, whose last part is this one of `op`, the operators going in this order
abbrev pub ordered_elements : Channel → List ℕ → List (List ElementsFields) → ℕ → ElementsFields → List MapElement
ordered_elements channel order queues op part =
    elements_of_map channel.frame_minislots (map_spans channel (map (part_at queues op part) order)) (map_pending (map (part_at queues op part) order))
