-- A set that is read keeps what its kind of scheduling keeps.
use Rattle.std.proofs.Common.{◌≡◌, ℕ, Option, Some, None, IfOk, refl}
use Rattle.operator_model.proofs.Common.{FlowFields, UnitSizes, invalids_of, invalid_of, set_unless, set_of_kind, parameter_set_of, Scheduling, BestEffort, NonRealTimePolling, RealTimePolling, UnsolicitedGrant, KeepsItsKind}
use Rattle.param_sets.specs.Scheduling.{scheduling_of}
use Rattle.param_sets.specs.Kept.{kept_of, missing_of}
use Rattle.param_sets.proofs.First.{none_is_true}
use Rattle.param_sets.proofs.KeptLemmas.{are_granted}

module _ (flow : FlowFields) (units : UnitSizes) where
  kept_kind : (kind : Scheduling) → invalid_of (kept_of kind flow) units ≡ None → KeepsItsKind (kept_of kind flow)
  kept_kind BestEffort valid = (record { polling_interval = refl; poll_jitter = refl }, record { grant_size = refl; grant_interval = refl; grant_jitter = refl; grants_per_interval = refl })
  kept_kind NonRealTimePolling valid = record { grant_size = refl; grant_interval = refl; grant_jitter = refl; grants_per_interval = refl }
  kept_kind RealTimePolling valid = record { grant_size = refl; grant_interval = refl; grant_jitter = refl; grants_per_interval = refl }
  kept_kind UnsolicitedGrant valid =
      (record { polling_interval = refl; poll_jitter = refl }, are_granted (kept_of UnsolicitedGrant flow) units refl (none_is_true (invalids_of UnsolicitedGrant (kept_of UnsolicitedGrant flow) units) valid))

  unless_kind : (kind : Scheduling) (missing invalid : Option ℕ) → invalid_of (kept_of kind flow) units ≡ invalid → IfOk (set_unless missing invalid (kept_of kind flow)) KeepsItsKind
  unless_kind kind (Some missing) invalid is = tt
  unless_kind kind None (Some invalid) is = tt
  unless_kind kind None None is = kept_kind kind is

  of_kind : (kind : Option Scheduling) → IfOk (set_of_kind kind flow units) KeepsItsKind
  of_kind None = tt
  of_kind (Some kind) = unless_kind kind (missing_of kind flow) (invalid_of (kept_of kind flow) units) refl

  pub read_kind : IfOk (parameter_set_of flow units) KeepsItsKind
  read_kind = of_kind (scheduling_of flow.scheduling_type)
