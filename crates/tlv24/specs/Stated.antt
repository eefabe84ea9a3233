-- What the reader keeps while it goes over the TLVs of a flow encoding.
use Rattle.std.specs.Prelude.{◌≡◌, List}
use Rattle.tlv24.specs.declared.tlv.Tlv.{Tlv}
use Rattle.tlv24.specs.declared.fields.FlowFields.{FlowFields}
use Rattle.tlv24.specs.Flow.{fields_of}

-- field by field, the fields are what the list states
pub record States (tlvs : List Tlv) (m : FlowFields) : Type 0 where
  pub reference : m.reference ≡ (fields_of tlvs).reference
  pub sfid : m.sfid ≡ (fields_of tlvs).sfid
  pub sid : m.sid ≡ (fields_of tlvs).sid
  pub class_name : m.class_name ≡ (fields_of tlvs).class_name
  pub errored : m.errored ≡ (fields_of tlvs).errored
  pub set_type : m.set_type ≡ (fields_of tlvs).set_type
  pub traffic_priority : m.traffic_priority ≡ (fields_of tlvs).traffic_priority
  pub max_sustained_rate : m.max_sustained_rate ≡ (fields_of tlvs).max_sustained_rate
  pub max_burst : m.max_burst ≡ (fields_of tlvs).max_burst
  pub min_reserved_rate : m.min_reserved_rate ≡ (fields_of tlvs).min_reserved_rate
  pub scheduling_type : m.scheduling_type ≡ (fields_of tlvs).scheduling_type
  pub request_policy : m.request_policy ≡ (fields_of tlvs).request_policy
  pub polling_interval : m.polling_interval ≡ (fields_of tlvs).polling_interval
  pub poll_jitter : m.poll_jitter ≡ (fields_of tlvs).poll_jitter
  pub grant_size : m.grant_size ≡ (fields_of tlvs).grant_size
  pub grant_interval : m.grant_interval ≡ (fields_of tlvs).grant_interval
  pub grant_jitter : m.grant_jitter ≡ (fields_of tlvs).grant_jitter
  pub grants_per_interval : m.grants_per_interval ≡ (fields_of tlvs).grants_per_interval
