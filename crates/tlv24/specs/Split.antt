-- What splitting bytes into TLVs answers.
use Rattle.std.specs.Prelude.{◌≡◌, ℕ, List, Result, Ok, Err}
use Rattle.std.specs.Global.{Vec}
use Rattle.tlv24.specs.declared.tlv.Tlv.{Tlv}
use Rattle.tlv24.specs.declared.tlv.TlvFault.{TlvFault}
use Rattle.tlv24.specs.declared.tlv.TlvFault.TheVariants.{Cut, WrongLength, Twice, Range, NoMemory}
use Rattle.tlv24.specs.Tlv.{IsCutAt}

-- the bytes are cut at this place, or memory ran out; no other fault is answered
abbrev pub IsSplitFault : List ℕ → TlvFault → Type 0
IsSplitFault bytes (Cut place) = IsCutAt bytes place
IsSplitFault bytes (WrongLength subtype) = ⊥
IsSplitFault bytes (Twice subtype) = ⊥
IsSplitFault bytes (Range subtype) = ⊥
IsSplitFault bytes NoMemory = Unit {0}

-- these TLVs, unless memory ran out
abbrev pub TlvsAreRead : Result (Vec Tlv) TlvFault → List Tlv → Type 0
TlvsAreRead (Ok v) tlvs = v.items ≡ tlvs
TlvsAreRead (Err fault) tlvs = fault ≡ NoMemory
