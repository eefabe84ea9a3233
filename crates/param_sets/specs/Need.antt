-- What a parameter set needs of each frame and of its MAP (implementation-specific).
use Rattle.std.specs.Prelude.{◌+◌, ◌*◌, Option, Some, None}
use Rattle.admission.specs.declared.budget.Budget.{Budget}
use Rattle.param_sets.specs.Units.{UnitSizes, minislots_of, reserve_of}
use Rattle.param_sets.specs.declared.scheduling.Scheduling.{Scheduling}
use Rattle.param_sets.specs.declared.scheduling.Scheduling.TheVariants.{BestEffort, NonRealTimePolling, RealTimePolling, UnsolicitedGrant}
use Rattle.param_sets.specs.declared.param_set.ParamFields.{ParamFields}

-- what a set of this kind of scheduling needs
abbrev pub need_of_kind : Scheduling → ParamFields → UnitSizes → Budget
need_of_kind BestEffort set units = record { minislots = reserve_of set.min_reserved_rate units; elements = 2 }
need_of_kind NonRealTimePolling set units = record { minislots = 1 + reserve_of set.min_reserved_rate units; elements = 3 }
need_of_kind RealTimePolling set units = record { minislots = 1 + reserve_of set.min_reserved_rate units; elements = 3 }
need_of_kind UnsolicitedGrant set units =
    record { minislots = set.grants_per_interval * minislots_of set.grant_size units; elements = set.grants_per_interval }

-- the minislots of each frame and the elements of its MAP that a parameter set needs, by its kind of scheduling
abbrev pub need_of : ParamFields → UnitSizes → Budget
need_of set units = need_of_kind set.scheduling set units

-- what a set needs, where there is one
abbrev pub need_if : UnitSizes → Option ParamFields → Budget
need_if units None = record { minislots = 0; elements = 0 }
need_if units (Some set) = need_of set units
