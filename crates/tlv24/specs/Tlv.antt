-- Lists of TLVs: a type byte, a length byte and as many value bytes, one after the other (CM-SP-MULPIv3.1, Annex C).
use Rattle.std.specs.Prelude.{◌≡◌, ℕ, zero, suc, ◌<◌, List, [], ◌∷◌, ◌++◌, length, take, drop, Option, Some, None, nat_le, if◌then◌else◌}
use Rattle.std.specs.List.{flat_map, AllByRecursion}
use Rattle.tlv24.specs.declared.tlv.Tlv.{Tlv}

-- the TLV of this type and value
abbrev pub tlv : ℕ → List ℕ → Tlv
tlv kind value = record { kind = kind; value = value }

-- one length byte can count the value
abbrev pub FitsLengthByte : Tlv → Type 0
FitsLengthByte t = length t.value < 256

-- the bytes of one TLV
abbrev pub spelled_one : Tlv → List ℕ
spelled_one t = t.kind ∷ length t.value ∷ t.value

-- the bytes of TLVs, one after the other
abbrev pub spelled : List Tlv → List ℕ
spelled tlvs = flat_map spelled_one tlvs

-- the bytes are these TLVs, each of at most 255 value bytes, and nothing else
pub record IsTlvList (bytes : List ℕ) (tlvs : List Tlv) : Type 0 where
  pub short : AllByRecursion FitsLengthByte tlvs
  pub spelling : bytes ≡ spelled tlvs

-- the bytes begin with this TLV, and the rest follows it
pub record Begins (bytes : List ℕ) (t : Tlv) (rest : List ℕ) : Type 0 where
  pub short : FitsLengthByte t
  pub spelling : bytes ≡ spelled_one t ++ rest

-- the bytes begin with no TLV
abbrev pub NoTlvBegins : List ℕ → Type 0
NoTlvBegins bytes = (t : Tlv) (rest : List ℕ) → Begins bytes t rest → ⊥

-- the bytes are these TLVs and then the rest
pub record IsFront (bytes : List ℕ) (tlvs : List Tlv) (rest : List ℕ) : Type 0 where
  pub short : AllByRecursion FitsLengthByte tlvs
  pub spelling : bytes ≡ spelled tlvs ++ rest

-- up to the place there are whole TLVs; from there on there are bytes with which no TLV begins
pub record IsCutAt (bytes : List ℕ) (place : ℕ) : Type 0 where
  pub inside : place < length bytes
  pub before : List Tlv
  pub front : IsTlvList (take place bytes) before
  pub stuck : NoTlvBegins (drop place bytes)

-- The same, read from left to right, for those who need it as a function.

-- a TLV, and the bytes that follow it
pub record First : Type 0 where
  pub tlv : Tlv
  pub rest : List ℕ

-- the TLV that the bytes begin with
abbrev pub first_tlv : List ℕ → Option First
first_tlv [] = None
first_tlv (kind ∷ []) = None
first_tlv (kind ∷ count ∷ more) =
    if nat_le count (length more) then Some (record { tlv = tlv kind (take count more); rest = drop count more }) else None

-- whole TLVs, and the bytes after them
pub record Front : Type 0 where
  pub tlvs : List Tlv
  pub rest : List ℕ

-- at most so many TLVs from the front
abbrev pub front_within : ℕ → List ℕ → Front
front_within zero bytes = record { tlvs = []; rest = bytes }
front_within (suc most) bytes =
    elim (first_tlv bytes) [
      | None ↦ record { tlvs = []; rest = bytes }
      | Some first ↦
          let others = front_within most first.rest in record { tlvs = first.tlv ∷ others.tlvs; rest = others.rest }
    ]

-- all whole TLVs from the front, and the bytes after them, with which no TLV begins
unfoldable pub front_of : List ℕ → Front
front_of bytes = front_within (length bytes) bytes
