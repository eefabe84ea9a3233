-- What a parameter set keeps (implementation-specific).
use Rattle.std.specs.Prelude.{◌≡◌, ◌≤◌}
use Rattle.param_sets.specs.declared.scheduling.Scheduling.{Scheduling}
use Rattle.param_sets.specs.declared.scheduling.Scheduling.TheVariants.{BestEffort, NonRealTimePolling, RealTimePolling, UnsolicitedGrant}
use Rattle.param_sets.specs.declared.param_set.ParamFields.{ParamFields}

-- it is not polled
pub record HasNoPolls (set : ParamFields) : Type 0 where
  pub polling_interval : set.polling_interval ≡ 0
  pub poll_jitter : set.poll_jitter ≡ 0

-- it has no unsolicited grants
pub record HasNoGrants (set : ParamFields) : Type 0 where
  pub grant_size : set.grant_size ≡ 0
  pub grant_interval : set.grant_interval ≡ 0
  pub grant_jitter : set.grant_jitter ≡ 0
  pub grants_per_interval : set.grants_per_interval ≡ 0

-- it has 1 to 127 unsolicited grants of some size, and nothing reserved next to them
pub record HasGrants (set : ParamFields) : Type 0 where
  pub min_reserved_rate : set.min_reserved_rate ≡ 0
  pub grant_size : 1 ≤ set.grant_size
  pub grants_per_interval : 1 ≤ set.grants_per_interval
  pub grants_most : set.grants_per_interval ≤ 127

-- what the kind keeps is in range, what it does not keep is 0
abbrev pub IsOfKind : Scheduling → ParamFields → Type 0
IsOfKind BestEffort set = HasNoPolls set × HasNoGrants set
IsOfKind NonRealTimePolling set = HasNoGrants set
IsOfKind RealTimePolling set = HasNoGrants set
IsOfKind UnsolicitedGrant set = HasNoPolls set × HasGrants set

-- the priority is 0 to 7, and the set keeps what its kind of scheduling keeps; the type `ParamSet` keeps it
pub record IsParameterSet (set : ParamFields) : Type 0 where
  pub priority : set.priority ≤ 7
  pub kind : IsOfKind set.scheduling set
