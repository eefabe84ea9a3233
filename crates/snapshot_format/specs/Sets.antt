-- Parameter sets in a line (implementation-specific).
use Rattle.std.specs.Prelude.{◌==◌, ℕ, ◌&&◌, nat_le, Bool, List, Option, Some, None, Result, Ok, Err, if◌then◌else◌}
use Rattle.lists.specs.Results.{◌>>=◌}
use Rattle.param_sets.specs.declared.scheduling.Scheduling.{Scheduling}
use Rattle.param_sets.specs.declared.scheduling.Scheduling.TheVariants.{BestEffort, NonRealTimePolling, RealTimePolling, UnsolicitedGrant}
use Rattle.param_sets.specs.declared.param_set.ParamFields.{ParamFields}
use Rattle.param_sets.specs.declared.sets.SetsFields.{SetsFields}
use Rattle.param_sets.specs.declared.refusal.Refusal.{Refusal}
use Rattle.param_sets.specs.Scheduling.{scheduling_of}
use Rattle.param_sets.specs.Sets.{admit_of, activate_of}
use Rattle.snapshot_format.specs.declared.fault.Wrong.{Wrong}
use Rattle.snapshot_format.specs.declared.fault.Wrong.TheVariants.{Range, Parameters, NotWithin}
use Rattle.snapshot_format.specs.Reading.{Taken, place_result}
use Rattle.snapshot_format.specs.Fields.{take_number, take_presence}

-- ---- one set

-- a kind of scheduling, if its number has one
abbrev pub scheduling_in : Option Scheduling → Result Scheduling Wrong
scheduling_in None = Err Range
scheduling_in (Some scheduling) = Ok scheduling

-- a kind of scheduling by its number
unfoldable pub take_scheduling : List ℕ → Taken Scheduling
take_scheduling bytes = take_number 255 44 bytes >>= λ number. place_result (scheduling_in (scheduling_of (Some number.0))) bytes number.1

-- the twelve parameters, a comma after each but the last
unfoldable pub take_params : List ℕ → Taken ParamFields
take_params bytes = do
  scheduling ← take_scheduling bytes
  priority ← take_number 255 44 scheduling.1
  max_sustained_rate ← take_number 4294967295 44 priority.1
  max_burst ← take_number 4294967295 44 max_sustained_rate.1
  min_reserved_rate ← take_number 4294967295 44 max_burst.1
  request_policy ← take_number 4294967295 44 min_reserved_rate.1
  polling_interval ← take_number 4294967295 44 request_policy.1
  poll_jitter ← take_number 4294967295 44 polling_interval.1
  grant_size ← take_number 65535 44 poll_jitter.1
  grant_interval ← take_number 4294967295 44 grant_size.1
  grant_jitter ← take_number 4294967295 44 grant_interval.1
  grants_per_interval ← take_number 255 32 grant_jitter.1
  Ok (
    record {
      scheduling = scheduling.0;
      priority = priority.0;
      max_sustained_rate = max_sustained_rate.0;
      max_burst = max_burst.0;
      min_reserved_rate = min_reserved_rate.0;
      request_policy = request_policy.0;
      polling_interval = polling_interval.0;
      poll_jitter = poll_jitter.0;
      grant_size = grant_size.0;
      grant_interval = grant_interval.0;
      grant_jitter = grant_jitter.0;
      grants_per_interval = grants_per_interval.0;
    },
    grants_per_interval.1,
  )

-- it is not polled
abbrev pub has_no_polls : ParamFields → Bool
has_no_polls set = set.polling_interval == 0 && set.poll_jitter == 0

-- it has no unsolicited grants
abbrev pub has_no_grants : ParamFields → Bool
has_no_grants set = set.grant_size == 0 && set.grant_interval == 0 && set.grant_jitter == 0 && set.grants_per_interval == 0

-- it has 1 to 127 unsolicited grants of some size, and nothing reserved next to them
abbrev pub has_grants : ParamFields → Bool
has_grants set = set.min_reserved_rate == 0 && nat_le 1 set.grant_size && nat_le 1 set.grants_per_interval && nat_le set.grants_per_interval 127

-- what the kind of scheduling does not keep is 0, and its grants are in range
abbrev pub is_of_kind : Scheduling → ParamFields → Bool
is_of_kind BestEffort set = has_no_polls set && has_no_grants set
is_of_kind NonRealTimePolling set = has_no_grants set
is_of_kind RealTimePolling set = has_no_grants set
is_of_kind UnsolicitedGrant set = has_no_polls set && has_grants set

-- what its kind of scheduling keeps is in range, and all else is 0
abbrev pub is_parameter_set : ParamFields → Bool
is_parameter_set set = nat_le set.priority 7 && is_of_kind set.scheduling set

-- the parameters, if they are those of a parameter set
abbrev pub checked_set : ParamFields → Result ParamFields Wrong
checked_set set = if is_parameter_set set then Ok set else Err Parameters

-- a parameter set
unfoldable pub take_set : List ℕ → Taken ParamFields
take_set bytes = take_params bytes >>= λ set. place_result (checked_set set.0) bytes set.1

-- a parameter set, if there is one
unfoldable pub take_optional_set : List ℕ → Taken (Option ParamFields)
take_optional_set bytes = do
  presence ← take_presence 32 bytes
  if presence.0 then (take_set presence.1 >>= λ set. Ok (Some set.0, set.1)) else Ok (None, presence.1)

-- ---- the sets of a flow

-- the sets of a flow that was provisioned with this one, or with none
abbrev pub sets_under : Option ParamFields → SetsFields
sets_under provisioned = record { provisioned = provisioned; admitted = None; active = None }

-- the sets, unless one is refused as not within another
abbrev pub within : Result SetsFields Refusal → Result SetsFields Wrong
within (Ok sets) = Ok sets
within (Err refusal) = Err NotWithin

-- the sets with this one admitted, if there is one
abbrev pub with_admitted : SetsFields → Option ParamFields → Result SetsFields Wrong
with_admitted sets None = Ok sets
with_admitted sets (Some set) = within (admit_of sets set)

-- the sets with this one active, if there is one
abbrev pub with_active : SetsFields → Option ParamFields → Result SetsFields Wrong
with_active sets None = Ok sets
with_active sets (Some set) = within (activate_of sets set)

-- the sets that a machine makes of these by admitting and activating them
abbrev pub checked_sets : Option ParamFields → Option ParamFields → Option ParamFields → Result SetsFields Wrong
checked_sets provisioned admitted active = with_admitted (sets_under provisioned) admitted >>= λ sets. with_active sets active

-- the provisioned, the admitted and the active set, each within the one before
unfoldable pub take_sets : List ℕ → Taken SetsFields
take_sets bytes = do
  provisioned ← take_optional_set bytes
  admitted ← take_optional_set provisioned.1
  active ← take_optional_set admitted.1
  place_result (checked_sets provisioned.0 admitted.0 active.0) bytes active.1
