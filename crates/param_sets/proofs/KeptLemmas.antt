-- What a kind keeps of an encoding is a parameter set, where nothing is out of its range.
use Rattle.std.proofs.Common.{◌≡◌, ℕ, ◌≤◌, refl, arith}
use Rattle.param_sets.proofs.Common.{nat_tests, Option, Some, None, IfSome, unwrap_or, AreInRange, FlowFields, UnitSizes, IsParameterSet, HasGrants, kept_of, invalids_of, invalid_of, Scheduling, BestEffort, NonRealTimePolling, RealTimePolling, UnsolicitedGrant, ParamFields}
use Rattle.param_sets.proofs.First.{AreFalse, none_is_true}

pub priority_most : (priority : Option ℕ) → IfSome priority (λ n. n ≤ 7) → unwrap_or priority 0 ≤ 7
priority_most None most = omega arith
priority_most (Some n) most = most

-- where nothing of an unsolicited grant is invalid, its size and its number are in range
pub are_granted : (set : ParamFields) (units : UnitSizes) → set.min_reserved_rate ≡ 0 → AreFalse (invalids_of UnsolicitedGrant set units) → HasGrants set
are_granted set units reserved valid = record {
  min_reserved_rate = reserved;
  grant_size = grind (arith, nat_tests, valid.0);
  grants_per_interval = grind (arith, nat_tests, valid.1.1.0);
  grants_most = grind (arith, nat_tests, valid.1.1.0);
}

pub is_parameter_set : (kind : Scheduling) (flow : FlowFields) (units : UnitSizes) → AreInRange flow → invalid_of (kept_of kind flow) units ≡ None → IsParameterSet (kept_of kind flow)
is_parameter_set BestEffort flow units range valid = record {
  priority = priority_most flow.traffic_priority range.traffic_priority;
  kind = (record { polling_interval = refl; poll_jitter = refl }, record { grant_size = refl; grant_interval = refl; grant_jitter = refl; grants_per_interval = refl });
}
is_parameter_set NonRealTimePolling flow units range valid = record {
  priority = priority_most flow.traffic_priority range.traffic_priority;
  kind = record { grant_size = refl; grant_interval = refl; grant_jitter = refl; grants_per_interval = refl };
}
is_parameter_set RealTimePolling flow units range valid = record {
  priority = priority_most flow.traffic_priority range.traffic_priority;
  kind = record { grant_size = refl; grant_interval = refl; grant_jitter = refl; grants_per_interval = refl };
}
is_parameter_set UnsolicitedGrant flow units range valid = record {
  priority = priority_most flow.traffic_priority range.traffic_priority;
  kind = (record { polling_interval = refl; poll_jitter = refl }, are_granted (kept_of UnsolicitedGrant flow) units refl (none_is_true (invalids_of UnsolicitedGrant (kept_of UnsolicitedGrant flow) units) valid));
}
