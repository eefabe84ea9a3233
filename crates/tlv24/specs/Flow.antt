-- Upstream service flow encodings: what a list of TLVs under type 24 says (CM-SP-MULPIv3.1, Annex C, type 24).
use Rattle.std.specs.Prelude.{◌≡◌, ◌==◌, ℕ, ◌-◌, ◌%◌, ◌<◌, ◌≤◌, Bool, true, not, ◌&&◌, ◌||◌, List, [], ◌∷◌, ◌++◌, length, map, filter, take, slice_get, slice_index, slice_index_or, Option, Some, None, Result, Ok, Err, is_some, nat_le, nat_lt, if◌then◌else◌}
use Rattle.std.specs.Option.{option_map}
use Rattle.std.specs.List.{list_all, find}
use Rattle.std.specs.Int.{w16, w32, from_be_bytes}
use Rattle.tlv24.specs.declared.tlv.Tlv.{Tlv}
use Rattle.tlv24.specs.declared.tlv.TlvFault.{TlvFault}
use Rattle.tlv24.specs.declared.tlv.TlvFault.TheVariants.{Cut, WrongLength, Twice, Range, NoMemory}
use Rattle.tlv24.specs.declared.fields.ErrorEncodings.{ErrorEncodings}
use Rattle.tlv24.specs.declared.fields.FlowFields.{FlowFields}
use Rattle.tlv24.specs.declared.fault.FlowFault.{FlowFault}
use Rattle.tlv24.specs.Subtype.{reference_subtype, sfid_subtype, sid_subtype, class_name_subtype, errored_subtype, set_type_subtype, traffic_priority_subtype, max_sustained_rate_subtype, max_burst_subtype, min_reserved_rate_subtype, scheduling_type_subtype, request_policy_subtype, polling_interval_subtype, poll_jitter_subtype, grant_size_subtype, grant_interval_subtype, grant_jitter_subtype, grants_per_interval_subtype, errored_parameter_subtype, error_code_subtype}
use Rattle.tlv24.specs.Tlv.{IsTlvList, IsFront, Begins, NoTlvBegins, spelled, front_of}

-- Numbers in a value, the most significant byte first.

-- a value of one byte
abbrev pub byte : List ℕ → ℕ
byte value = slice_index value 0

-- a value of two bytes
abbrev pub word : List ℕ → ℕ
word value = from_be_bytes w16 value

-- a value of four bytes
abbrev pub long : List ℕ → ℕ
long value = from_be_bytes w32 value

-- a SID has 14 bits: the upper two of its two bytes do not count
abbrev pub low_bits : List ℕ → ℕ
low_bits value = word value % 16384

-- a class name is without the 0 that ends it
abbrev pub name_of : List ℕ → List ℕ
name_of value = take (length value - 1) value

-- error encodings are two TLVs of their own: 5.1 the invalid subtype, 5.2 the confirmation code
abbrev pub errored_of : List ℕ → ErrorEncodings
errored_of value = record { errored_parameter = slice_index value 2; code = slice_index value 5 }

-- The known subtypes, each with the least and the greatest length of its value in bytes.
abbrev pub known_subtypes : List (ℕ × (ℕ × ℕ))
known_subtypes =
    (reference_subtype, (2, 2)) ∷
    (sfid_subtype, (4, 4)) ∷
    (sid_subtype, (2, 2)) ∷
    (class_name_subtype, (2, 16)) ∷
    (errored_subtype, (6, 6)) ∷
    (set_type_subtype, (1, 1)) ∷
    (traffic_priority_subtype, (1, 1)) ∷
    (max_sustained_rate_subtype, (4, 4)) ∷
    (max_burst_subtype, (4, 4)) ∷
    (min_reserved_rate_subtype, (4, 4)) ∷
    (scheduling_type_subtype, (1, 1)) ∷
    (request_policy_subtype, (4, 4)) ∷
    (polling_interval_subtype, (4, 4)) ∷
    (poll_jitter_subtype, (4, 4)) ∷
    (grant_size_subtype, (2, 2)) ∷
    (grant_interval_subtype, (4, 4)) ∷
    (grant_jitter_subtype, (4, 4)) ∷
    (grants_per_interval_subtype, (1, 1)) ∷ []

-- the least and the greatest length of a known subtype; none of any other
abbrev pub lengths_of : ℕ → Option (ℕ × ℕ)
lengths_of subtype = option_map (λ row. row.1) (find (λ row. row.0 == subtype) known_subtypes)

-- the value ends in its only 0, after at least one byte
abbrev pub is_terminated : List ℕ → Bool
is_terminated value = (slice_index_or value (length value - 1) 1 == 0) && list_all (λ b. not (b == 0)) (name_of value)

-- the value is 01 01 p 02 01 c
abbrev pub is_error_pair : List ℕ → Bool
is_error_pair value =
    (slice_index value 0 == errored_parameter_subtype) && (slice_index value 1 == 1) && (slice_index value 3 == error_code_subtype) && (slice_index value 4 == 1)

-- Which values a subtype takes, of those that have its length; where none is named, it takes all.
abbrev pub in_range : ℕ → List ℕ → Bool
in_range subtype value =
    if subtype == reference_subtype then not (word value == 0) else
    if subtype == sfid_subtype then not (long value == 0) else
    if subtype == class_name_subtype then is_terminated value else
    if subtype == errored_subtype then is_error_pair value else
    if subtype == traffic_priority_subtype then nat_le (byte value) 7 else
    true

-- the values that are under a subtype, in order
abbrev pub values_of : ℕ → List Tlv → List (List ℕ)
values_of subtype tlvs = map (λ t. t.value) (filter (λ t. t.kind == subtype) tlvs)

-- the first value that is under a subtype
abbrev pub value_of : ℕ → List Tlv → Option (List ℕ)
value_of subtype tlvs = slice_get (values_of subtype tlvs) 0

-- The eighteen fields that a list of TLVs states, one for each known subtype: other subtypes are skipped.
abbrev pub fields_of : List Tlv → FlowFields
fields_of tlvs = record {
  reference = option_map word (value_of reference_subtype tlvs);
  sfid = option_map long (value_of sfid_subtype tlvs);
  sid = option_map low_bits (value_of sid_subtype tlvs);
  class_name = option_map name_of (value_of class_name_subtype tlvs);
  errored = option_map errored_of (value_of errored_subtype tlvs);
  set_type = option_map byte (value_of set_type_subtype tlvs);
  traffic_priority = option_map byte (value_of traffic_priority_subtype tlvs);
  max_sustained_rate = option_map long (value_of max_sustained_rate_subtype tlvs);
  max_burst = option_map long (value_of max_burst_subtype tlvs);
  min_reserved_rate = option_map long (value_of min_reserved_rate_subtype tlvs);
  scheduling_type = option_map byte (value_of scheduling_type_subtype tlvs);
  request_policy = option_map long (value_of request_policy_subtype tlvs);
  polling_interval = option_map long (value_of polling_interval_subtype tlvs);
  poll_jitter = option_map long (value_of poll_jitter_subtype tlvs);
  grant_size = option_map word (value_of grant_size_subtype tlvs);
  grant_interval = option_map long (value_of grant_interval_subtype tlvs);
  grant_jitter = option_map long (value_of grant_jitter_subtype tlvs);
  grants_per_interval = option_map byte (value_of grants_per_interval_subtype tlvs);
}

-- a value as its subtype has it
pub record IsOfSubtype (subtype : ℕ) (lengths : ℕ × ℕ) (value : List ℕ) : Type 0 where
  pub long_enough : lengths.0 ≤ length value
  pub short_enough : length value ≤ lengths.1
  pub takes : in_range subtype value ≡ true

-- nothing is under the subtype, or one value as it has it
abbrev pub IsOnceAtMost : ℕ → ℕ × ℕ → List (List ℕ) → Type 0
IsOnceAtMost subtype lengths [] = Unit {0}
IsOnceAtMost subtype lengths (value ∷ []) = IsOfSubtype subtype lengths value
IsOnceAtMost subtype lengths (value ∷ again ∷ values) = ⊥

-- so it is for each known subtype
abbrev pub EachIsOnceAtMost : List Tlv → Type 0
EachIsOnceAtMost tlvs = (subtype : ℕ) (lengths : ℕ × ℕ) → lengths_of subtype ≡ Some lengths → IsOnceAtMost subtype lengths (values_of subtype tlvs)

-- The bytes are a flow encoding and say these fields: they are a list of TLVs in which each known subtype is at
-- most once, with its length and in its range, and the fields are what is there.
pub record IsFlowEncoding (bytes : List ℕ) (m : FlowFields) : Type 0 where
  pub tlvs : List Tlv
  pub list : IsTlvList bytes tlvs
  pub sound : EachIsOnceAtMost tlvs
  pub fields : m ≡ fields_of tlvs

-- What is wrong with a TLV after those before it, tried in this order: its length, that its subtype was before, its range.
abbrev pub fault_with : Option (ℕ × ℕ) → List Tlv → Tlv → Option TlvFault
fault_with None before t = None
fault_with (Some lengths) before t =
    if nat_lt (length t.value) lengths.0 || nat_lt lengths.1 (length t.value) then Some (WrongLength t.kind) else
    if is_some (value_of t.kind before) then Some (Twice t.kind) else
    if in_range t.kind t.value then None else Some (Range t.kind)

-- the first thing wrong with a TLV after those before it, if there is one
unfoldable pub fault_of : List Tlv → Tlv → Option TlvFault
fault_of before t = fault_with (lengths_of t.kind) before t

-- after these TLVs the rest begins with this fault
abbrev pub GoesWrong : List Tlv → List ℕ → TlvFault → Type 0
GoesWrong before rest (Cut place) = (place ≡ length (spelled before)) × (0 < length rest) × NoTlvBegins rest
GoesWrong before rest NoMemory = ⊥
GoesWrong before rest fault = (t : Tlv) × (after : List ℕ) × Begins rest t after × (fault_of before t ≡ Some fault)

-- The first fault in the order of bytes: before it is a flow encoding, whose reference and SFID are reported with it. The fault is the cut,
-- or the first of three that the next TLV has: its length, a repetition, its range.
pub record IsFirstFlowFault (bytes : List ℕ) (e : FlowFault) : Type 0 where
  pub before : List Tlv
  pub rest : List ℕ
  pub front : IsFront bytes before rest
  pub sound : EachIsOnceAtMost before
  pub wrong : GoesWrong before rest e.fault
  pub reference : e.reference ≡ (fields_of before).reference
  pub sfid : e.sfid ≡ (fields_of before).sfid

-- The same, read from left to right, for those who need it as a function.

-- the fault with the reference and the SFID that the TLVs before it state
abbrev pub fault_after : List Tlv → TlvFault → FlowFault
fault_after before fault =
    record { fault = fault; reference = (fields_of before).reference; sfid = (fields_of before).sfid }

-- what TLVs say after those before them, and after the last of them where the bytes are cut, if they are
abbrev pub says_after : List Tlv → List Tlv → Option ℕ → Result FlowFields FlowFault
says_after before [] None = Ok (fields_of before)
says_after before [] (Some place) = Err (fault_after before (Cut place))
says_after before (t ∷ tlvs) cut =
    elim (fault_of before t) [
      | None ↦ says_after (before ++ t ∷ []) tlvs cut
      | Some fault ↦ Err (fault_after before fault)
    ]

-- where the bytes are cut, if a rest is left with which no TLV begins
abbrev pub cut_in : List ℕ → List ℕ → Option ℕ
cut_in bytes rest = if length rest == 0 then None else Some (length bytes - length rest)

-- the fields that bytes state, or their first fault: the result of reading as a function, for the machine
unfoldable pub flow_of : List ℕ → Result FlowFields FlowFault
flow_of bytes = says_after [] (front_of bytes).tlvs (cut_in bytes (front_of bytes).rest)
