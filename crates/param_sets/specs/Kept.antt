-- Which fields of an encoding a kind of scheduling keeps and which it requires, and what an absent one counts as (implementation-specific).
use Rattle.std.specs.Prelude.{ℕ, ◌==◌, Bool, List, [], ◌∷◌, Option, unwrap_or, if◌then◌else◌}
use Rattle.std.specs.Option.{is_none}
use Rattle.std.specs.List.{list_any}
use Rattle.tlv24.specs.Subtype.{traffic_priority_subtype, max_sustained_rate_subtype, max_burst_subtype, min_reserved_rate_subtype, request_policy_subtype, polling_interval_subtype, poll_jitter_subtype, grant_size_subtype, grant_interval_subtype, grant_jitter_subtype, grants_per_interval_subtype}
use Rattle.tlv24.specs.declared.fields.FlowFields.{FlowFields}
use Rattle.param_sets.specs.FirstTrue.{first_true}
use Rattle.param_sets.specs.declared.scheduling.Scheduling.{Scheduling}
use Rattle.param_sets.specs.declared.scheduling.Scheduling.TheVariants.{BestEffort, NonRealTimePolling, RealTimePolling, UnsolicitedGrant}
use Rattle.param_sets.specs.declared.param_set.ParamFields.{ParamFields}

-- the subtypes that each kind keeps
abbrev pub subtypes_of : Scheduling → List ℕ
subtypes_of BestEffort =
    traffic_priority_subtype ∷ max_sustained_rate_subtype ∷ max_burst_subtype ∷ min_reserved_rate_subtype ∷
    request_policy_subtype ∷ []
subtypes_of NonRealTimePolling =
    traffic_priority_subtype ∷ max_sustained_rate_subtype ∷ max_burst_subtype ∷ min_reserved_rate_subtype ∷
    request_policy_subtype ∷ polling_interval_subtype ∷ poll_jitter_subtype ∷ []
subtypes_of RealTimePolling =
    traffic_priority_subtype ∷ max_sustained_rate_subtype ∷ max_burst_subtype ∷ min_reserved_rate_subtype ∷
    request_policy_subtype ∷ polling_interval_subtype ∷ poll_jitter_subtype ∷ []
subtypes_of UnsolicitedGrant =
    traffic_priority_subtype ∷ max_sustained_rate_subtype ∷ max_burst_subtype ∷ request_policy_subtype ∷
    grant_size_subtype ∷ grant_interval_subtype ∷ grant_jitter_subtype ∷ grants_per_interval_subtype ∷ []

-- a set of this kind of scheduling keeps the subtype
abbrev pub keeps : Scheduling → ℕ → Bool
keeps kind subtype = list_any (λ kept. kept == subtype) (subtypes_of kind)

-- what an absent field counts as: a flow that is polled, but not in real time, is polled each second
abbrev pub default_value : Scheduling → ℕ → ℕ
default_value NonRealTimePolling subtype = if subtype == polling_interval_subtype then 1000000 else 0
default_value kind subtype = 0

-- the value of a subtype in a set of this kind, from what is stated
abbrev pub kept_value : Scheduling → ℕ → Option ℕ → ℕ
kept_value kind subtype stated = if keeps kind subtype then unwrap_or stated (default_value kind subtype) else 0

-- the fields of an encoding that the kind keeps
abbrev pub kept_of : Scheduling → FlowFields → ParamFields
kept_of kind flow = record {
  scheduling = kind;
  priority = kept_value kind traffic_priority_subtype flow.traffic_priority;
  max_sustained_rate = kept_value kind max_sustained_rate_subtype flow.max_sustained_rate;
  max_burst = kept_value kind max_burst_subtype flow.max_burst;
  min_reserved_rate = kept_value kind min_reserved_rate_subtype flow.min_reserved_rate;
  request_policy = kept_value kind request_policy_subtype flow.request_policy;
  polling_interval = kept_value kind polling_interval_subtype flow.polling_interval;
  poll_jitter = kept_value kind poll_jitter_subtype flow.poll_jitter;
  grant_size = kept_value kind grant_size_subtype flow.grant_size;
  grant_interval = kept_value kind grant_interval_subtype flow.grant_interval;
  grant_jitter = kept_value kind grant_jitter_subtype flow.grant_jitter;
  grants_per_interval = kept_value kind grants_per_interval_subtype flow.grants_per_interval;
}

-- which required fields are missing, each with its subtype
abbrev pub missings_of : Scheduling → FlowFields → List (Bool × ℕ)
missings_of BestEffort flow = []
missings_of NonRealTimePolling flow = []
missings_of RealTimePolling flow = (is_none flow.polling_interval, polling_interval_subtype) ∷ []
missings_of UnsolicitedGrant flow =
    (is_none flow.grant_size, grant_size_subtype) ∷
    (is_none flow.grant_interval, grant_interval_subtype) ∷
    (is_none flow.grants_per_interval, grants_per_interval_subtype) ∷ []

-- the least required subtype that is missing
abbrev pub missing_of : Scheduling → FlowFields → Option ℕ
missing_of kind flow = first_true (missings_of kind flow)
