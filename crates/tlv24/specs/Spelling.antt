-- How a flow encoding is written: the fields that are present, each once, in ascending order of subtype.
use Rattle.std.specs.Prelude.{ℕ, List, [], ◌∷◌, ◌++◌, Option, Some, None}
use Rattle.std.specs.Option.{option_map}
use Rattle.std.specs.Int.{w16, w32, to_be_bytes}
use Rattle.tlv24.specs.declared.tlv.Tlv.{Tlv}
use Rattle.tlv24.specs.declared.fields.ErrorEncodings.{ErrorEncodings}
use Rattle.tlv24.specs.declared.fields.FlowFields.{FlowFields}
use Rattle.tlv24.specs.Subtype.{reference_subtype, sfid_subtype, sid_subtype, class_name_subtype, errored_subtype, set_type_subtype, traffic_priority_subtype, max_sustained_rate_subtype, max_burst_subtype, min_reserved_rate_subtype, scheduling_type_subtype, request_policy_subtype, polling_interval_subtype, poll_jitter_subtype, grant_size_subtype, grant_interval_subtype, grant_jitter_subtype, grants_per_interval_subtype, errored_parameter_subtype, error_code_subtype}
use Rattle.tlv24.specs.Tlv.{tlv}

-- a number of one byte
abbrev pub single : ℕ → List ℕ
single n = n ∷ []

-- a class name ends with a 0
abbrev pub terminated_name : List ℕ → List ℕ
terminated_name name = name ++ 0 ∷ []

-- error encodings are two TLVs of their own: 5.1 the invalid subtype, 5.2 the confirmation code
abbrev pub spelled_error : ErrorEncodings → List ℕ
spelled_error e = errored_parameter_subtype ∷ 1 ∷ e.errored_parameter ∷ error_code_subtype ∷ 1 ∷ e.code ∷ []

-- the TLV of a field that is present, under its subtype, or nothing
abbrev pub under : ℕ → Option (List ℕ) → List Tlv
under subtype None = []
under subtype (Some value) = tlv subtype value ∷ []

-- the fields that are present, each as a TLV, in ascending order of subtype
abbrev pub tlvs_of : FlowFields → List Tlv
tlvs_of m =
    under reference_subtype (option_map (to_be_bytes w16) m.reference) ++
    under sfid_subtype (option_map (to_be_bytes w32) m.sfid) ++
    under sid_subtype (option_map (to_be_bytes w16) m.sid) ++
    under class_name_subtype (option_map terminated_name m.class_name) ++
    under errored_subtype (option_map spelled_error m.errored) ++
    under set_type_subtype (option_map single m.set_type) ++
    under traffic_priority_subtype (option_map single m.traffic_priority) ++
    under max_sustained_rate_subtype (option_map (to_be_bytes w32) m.max_sustained_rate) ++
    under max_burst_subtype (option_map (to_be_bytes w32) m.max_burst) ++
    under min_reserved_rate_subtype (option_map (to_be_bytes w32) m.min_reserved_rate) ++
    under scheduling_type_subtype (option_map single m.scheduling_type) ++
    under request_policy_subtype (option_map (to_be_bytes w32) m.request_policy) ++
    under polling_interval_subtype (option_map (to_be_bytes w32) m.polling_interval) ++
    under poll_jitter_subtype (option_map (to_be_bytes w32) m.poll_jitter) ++
    under grant_size_subtype (option_map (to_be_bytes w16) m.grant_size) ++
    under grant_interval_subtype (option_map (to_be_bytes w32) m.grant_interval) ++
    under grant_jitter_subtype (option_map (to_be_bytes w32) m.grant_jitter) ++
    under grants_per_interval_subtype (option_map single m.grants_per_interval)
