-- The parameter set of a flow encoding (implementation-specific).
use Rattle.std.specs.Prelude.{ℕ, ◌==◌, ◌||◌, nat_lt, Bool, List, [], ◌∷◌, Option, Some, None, Result, Ok, Err}
use Rattle.tlv24.specs.Subtype.{scheduling_type_subtype, polling_interval_subtype, grant_size_subtype, grant_interval_subtype, grants_per_interval_subtype}
use Rattle.tlv24.specs.declared.fields.FlowFields.{FlowFields}
use Rattle.dsx_messages.specs.declared.code.Code.TheVariants.{RejectRequiredParameterNotPresent, RejectInvalidForContext}
use Rattle.param_sets.specs.FirstTrue.{first_true}
use Rattle.param_sets.specs.Units.{UnitSizes, frames_in_interval}
use Rattle.param_sets.specs.Scheduling.{scheduling_of}
use Rattle.param_sets.specs.Kept.{kept_of, missing_of}
use Rattle.param_sets.specs.declared.scheduling.Scheduling.{Scheduling}
use Rattle.param_sets.specs.declared.scheduling.Scheduling.TheVariants.{BestEffort, NonRealTimePolling, RealTimePolling, UnsolicitedGrant}
use Rattle.param_sets.specs.declared.param_set.ParamFields.{ParamFields}
use Rattle.param_sets.specs.declared.refusal.Refusal.{Refusal}

-- what of a set of this kind is out of its range, test by test, each with its subtype: an interval of no whole frame, a size
-- of 0, grants that are not 1 to 127
abbrev pub invalids_of : Scheduling → ParamFields → UnitSizes → List (Bool × ℕ)
invalids_of BestEffort set units = []
invalids_of NonRealTimePolling set units = (frames_in_interval set.polling_interval units == 0, polling_interval_subtype) ∷ []
invalids_of RealTimePolling set units = (frames_in_interval set.polling_interval units == 0, polling_interval_subtype) ∷ []
invalids_of UnsolicitedGrant set units =
    (set.grant_size == 0, grant_size_subtype) ∷
    (frames_in_interval set.grant_interval units == 0, grant_interval_subtype) ∷
    (set.grants_per_interval == 0 || nat_lt 127 set.grants_per_interval, grants_per_interval_subtype) ∷ []

-- the first subtype of a set that is out of its range
abbrev pub invalid_of : ParamFields → UnitSizes → Option ℕ
invalid_of set units = first_true (invalids_of set.scheduling set units)

-- the set, unless a subtype is missing or else invalid
abbrev pub set_unless : Option ℕ → Option ℕ → ParamFields → Result ParamFields Refusal
set_unless (Some missing) invalid set = Err (record { code = RejectRequiredParameterNotPresent; subtype = missing })
set_unless None (Some invalid) set = Err (record { code = RejectInvalidForContext; subtype = invalid })
set_unless None None set = Ok set

-- the set of an encoding with this kind of scheduling
abbrev pub set_of_kind : Option Scheduling → FlowFields → UnitSizes → Result ParamFields Refusal
set_of_kind None flow units = Err (record { code = RejectInvalidForContext; subtype = scheduling_type_subtype })
set_of_kind (Some kind) flow units =
    set_unless (missing_of kind flow) (invalid_of (kept_of kind flow) units) (kept_of kind flow)

-- the parameter set of a flow encoding by its scheduling type, or why it has none: what `from_tlv` returns
abbrev pub parameter_set_of : FlowFields → UnitSizes → Result ParamFields Refusal
parameter_set_of flow units = set_of_kind (scheduling_of flow.scheduling_type) flow units
