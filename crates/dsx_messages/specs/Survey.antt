-- What a first pass over the TLVs of a request finds.
use Rattle.std.specs.Prelude.{◌≡◌, ◌==◌, ◌||◌, if◌then◌else◌, ℕ, ◌+◌, ◌-◌, ◌<◌, ◌≤◌, List, length, Option, Some, None}
use Rattle.tlv24.specs.Tlv.{front_of}
use Rattle.tlv24.specs.Flow.{values_of}
use Rattle.dsx_messages.specs.TlvType.{upstream_classifier, downstream_classifier, upstream_service_flow, downstream_service_flow, payload_header_suppression}
use Rattle.dsx_messages.specs.Reading.{left_out_in}

-- the first of two, if it is there
abbrev pub first_some : Option ℕ → Option ℕ → Option ℕ
first_some None other = other
first_some (Some n) other = Some n

-- the type of a TLV, if it is one that is left out: 22, 23, 25 or 26
abbrev pub left_out_kind : ℕ → Option ℕ
left_out_kind kind =
    if (kind == upstream_classifier) || (kind == downstream_classifier) || (kind == downstream_service_flow) ||
    (kind == payload_header_suppression) then Some kind
    else None

-- how many flow encodings a TLV of this type is: 1 of type 24, else 0
abbrev pub flow_count : ℕ → ℕ
flow_count kind = if kind == upstream_service_flow then 1 else 0

-- the list is whole: its first type that is left out, if any, and the number of its type 24s
pub record IsSurveyed (list : List ℕ) (left_out : Option ℕ) (flows : ℕ) : Type 0 where
  pub whole : length (front_of list).rest ≡ 0
  pub left_out_is : left_out ≡ left_out_in (front_of list).tlvs
  pub flows_are : flows ≡ length (values_of upstream_service_flow (front_of list).tlvs)

-- the list is cut at this place
pub record IsCutSurvey (list : List ℕ) (at_place : ℕ) : Type 0 where
  pub some : 0 < length (front_of list).rest
  pub place_is : at_place ≡ length list - length (front_of list).rest

-- what the pass keeps
pub record IsSurveyedUpTo (list rest : List ℕ) (left_out : Option ℕ) (flows : ℕ) : Type 0 where
  pub room : flows + length rest ≤ length list
  pub same_rest : (front_of list).rest ≡ (front_of rest).rest
  pub left_out_is : left_out_in (front_of list).tlvs ≡ first_some left_out (left_out_in (front_of rest).tlvs)
  pub flows_are : length (values_of upstream_service_flow (front_of list).tlvs) ≡ flows + length (values_of upstream_service_flow (front_of rest).tlvs)
