-- What the reader of a flow encoding keeps while it goes over the bytes.
use Rattle.std.specs.Prelude.{◌≡◌, List, ℕ}
use Rattle.tlv24.specs.declared.tlv.Tlv.{Tlv}
use Rattle.tlv24.specs.declared.fields.FlowFields.{FlowFields}
use Rattle.tlv24.specs.Tlv.{IsFront, front_of}
use Rattle.tlv24.specs.Flow.{EachIsOnceAtMost, flow_of, says_after, cut_in}
use Rattle.tlv24.specs.Stated.{States}

-- TLVs were read that are sound and state the fields; the rest decides what the bytes say
pub record IsReadUpTo (bytes rest : List ℕ) (fields : FlowFields) : Type 0 where
  pub before : List Tlv
  pub front : IsFront bytes before rest
  pub sound : EachIsOnceAtMost before
  pub stated : States before fields
  pub goes_on : flow_of bytes ≡ says_after before (front_of rest).tlvs (cut_in bytes (front_of rest).rest)
