-- The bytes of a MAP (implementation-specific layout, after CM-SP-MULPIv3.1, 6.4.4).
use Rattle.std.specs.Prelude.{ℕ, List, [], ◌∷◌, ◌++◌}
use Rattle.std.specs.Int.{w32, to_be_bytes}
use Rattle.map_assembly.specs.declared.element.MapElement.{MapElement}
use Rattle.map_assembly.specs.declared.view.MapHeader.{MapHeader}
use Rattle.map_assembly.specs.Wire.{reserved_byte}
use Rattle.map_assembly.specs.Element.{spelled_elements}

-- the bytes of a header, the fourth of which is reserved
abbrev pub spelled_header : MapHeader → List ℕ
spelled_header h =
    (h.channel ∷ h.ucd_count ∷ h.elements ∷ reserved_byte ∷ [])
    ++ to_be_bytes w32 h.alloc_start ++ to_be_bytes w32 h.ack_time
    ++ (h.backoffs.ranging_start ∷ h.backoffs.ranging_end ∷ h.backoffs.data_start ∷ h.backoffs.data_end ∷ [])

-- a header and its elements
abbrev pub spelled_map : MapHeader → List MapElement → List ℕ
spelled_map header elements = spelled_header header ++ spelled_elements elements
