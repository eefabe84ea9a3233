-- The subtypes of an upstream service flow encoding (CM-SP-MULPIv3.1, Annex C, type 24) that are known here, and those of error
-- encodings within one of them. Every other subtype is passed over.
use Rattle.std.specs.Prelude.{ℕ}

-- Service Flow Reference
abbrev pub reference_subtype : ℕ
reference_subtype = 1

-- Service Flow Identifier (SFID)
abbrev pub sfid_subtype : ℕ
sfid_subtype = 2

-- Service Identifier (SID)
abbrev pub sid_subtype : ℕ
sid_subtype = 3

-- Service Class Name
abbrev pub class_name_subtype : ℕ
class_name_subtype = 4

-- Service Flow Error Encodings
abbrev pub errored_subtype : ℕ
errored_subtype = 5

-- Quality of Service Parameter Set Type
abbrev pub set_type_subtype : ℕ
set_type_subtype = 6

-- Traffic Priority
abbrev pub traffic_priority_subtype : ℕ
traffic_priority_subtype = 7

-- Maximum Sustained Traffic Rate
abbrev pub max_sustained_rate_subtype : ℕ
max_sustained_rate_subtype = 8

-- Maximum Traffic Burst
abbrev pub max_burst_subtype : ℕ
max_burst_subtype = 9

-- Minimum Reserved Traffic Rate
abbrev pub min_reserved_rate_subtype : ℕ
min_reserved_rate_subtype = 10

-- Service Flow Scheduling Type
abbrev pub scheduling_type_subtype : ℕ
scheduling_type_subtype = 15

-- Request/Transmission Policy
abbrev pub request_policy_subtype : ℕ
request_policy_subtype = 16

-- Nominal Polling Interval
abbrev pub polling_interval_subtype : ℕ
polling_interval_subtype = 17

-- Tolerated Poll Jitter
abbrev pub poll_jitter_subtype : ℕ
poll_jitter_subtype = 18

-- Unsolicited Grant Size
abbrev pub grant_size_subtype : ℕ
grant_size_subtype = 19

-- Nominal Grant Interval
abbrev pub grant_interval_subtype : ℕ
grant_interval_subtype = 20

-- Tolerated Grant Jitter
abbrev pub grant_jitter_subtype : ℕ
grant_jitter_subtype = 21

-- Grants Per Interval
abbrev pub grants_per_interval_subtype : ℕ
grants_per_interval_subtype = 22

-- ---- within error encodings

-- Errored Parameter: the invalid subtype
abbrev pub errored_parameter_subtype : ℕ
errored_parameter_subtype = 1

-- Error Code: a confirmation code
abbrev pub error_code_subtype : ℕ
error_code_subtype = 2
