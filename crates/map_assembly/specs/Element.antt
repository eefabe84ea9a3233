-- Information elements of a MAP (CM-SP-MULPIv3.1, 6.4.4.2).
use Rattle.std.specs.Prelude.{ℕ, ◌+◌, ◌*◌, ◌/◌, ◌%◌, ◌^◌, ◌<◌, ◌==◌, ◌&&◌, Bool, List, [], ◌∷◌}
use Rattle.std.specs.List.{flat_map}
use Rattle.std.specs.Int.{w32, to_be_bytes, from_be_bytes}
use Rattle.map_assembly.specs.declared.element.MapElement.{MapElement}
use Rattle.map_assembly.specs.Wire.{sid_bits, iuc_bits, offset_bits, nobodys_sid, null_iuc}

-- an element's 32 bits: those of the SID, of the IUC and of the offset
abbrev pub word_of : MapElement → ℕ
word_of e = e.sid * 2 ^ (iuc_bits + offset_bits) + e.iuc * 2 ^ offset_bits + e.offset

-- the element of 32 bits
abbrev pub element_of : ℕ → MapElement
element_of word = record {
  sid = word / 2 ^ (iuc_bits + offset_bits);
  iuc = word / 2 ^ offset_bits % 2 ^ iuc_bits;
  offset = word % 2 ^ offset_bits;
}

-- each field of an element has its bits
pub record FitsElement (e : MapElement) : Type 0 where
  pub sid : e.sid < 2 ^ sid_bits
  pub iuc : e.iuc < 2 ^ iuc_bits
  pub offset : e.offset < 2 ^ offset_bits

-- the Null: the SID of nobody, and the Null's IUC
abbrev pub is_null : MapElement → Bool
is_null e = e.sid == nobodys_sid && e.iuc == null_iuc

-- an element's four bytes
abbrev pub spelled_element : MapElement → List ℕ
spelled_element e = to_be_bytes w32 (word_of e)

-- the bytes of elements, one after the other
abbrev pub spelled_elements : List MapElement → List ℕ
spelled_elements elements = flat_map spelled_element elements

-- the elements that bytes are, four bytes each
abbrev pub elements_in : List ℕ → List MapElement
elements_in (a ∷ b ∷ c ∷ d ∷ rest) = element_of (from_be_bytes w32 (a ∷ b ∷ c ∷ d ∷ [])) ∷ elements_in rest
elements_in _ = []
