-- What it means that a flow encoding asks for a parameter set (implementation-specific).
use Rattle.std.specs.Prelude.{◌≡◌, ◌≤◌, ℕ, Some, IsSome}
use Rattle.tlv24.specs.declared.fields.FlowFields.{FlowFields}
use Rattle.param_sets.specs.Units.{UnitSizes, frames_in_interval}
use Rattle.param_sets.specs.Scheduling.{scheduling_of}
use Rattle.param_sets.specs.ParamSet.{IsParameterSet}
use Rattle.param_sets.specs.Kept.{kept_of, missing_of}
use Rattle.param_sets.specs.declared.scheduling.Scheduling.{Scheduling}
use Rattle.param_sets.specs.declared.scheduling.Scheduling.TheVariants.{BestEffort, NonRealTimePolling, RealTimePolling, UnsolicitedGrant}
use Rattle.param_sets.specs.declared.param_set.ParamFields.{ParamFields}

-- an unsolicited grant needs its size, its interval and its number
pub record StatesGrants (flow : FlowFields) : Type 0 where
  pub grant_size : IsSome flow.grant_size
  pub grant_interval : IsSome flow.grant_interval
  pub grants_per_interval : IsSome flow.grants_per_interval

-- each field that the kind requires is stated
abbrev pub StatesRequired : Scheduling → FlowFields → Type 0
StatesRequired BestEffort flow = Unit {0}
StatesRequired NonRealTimePolling flow = Unit {0}
StatesRequired RealTimePolling flow = IsSome flow.polling_interval
StatesRequired UnsolicitedGrant flow = StatesGrants flow

-- its interval, where the kind has one, is at least a frame
abbrev pub TakesFrames : Scheduling → ParamFields → UnitSizes → Type 0
TakesFrames BestEffort set units = Unit {0}
TakesFrames NonRealTimePolling set units = 1 ≤ frames_in_interval set.polling_interval units
TakesFrames RealTimePolling set units = 1 ≤ frames_in_interval set.polling_interval units
TakesFrames UnsolicitedGrant set units = 1 ≤ frames_in_interval set.grant_interval units

-- the set has what the kind keeps of the encoding, nothing required is missing, and all is in range
pub record AsksFor (flow : FlowFields) (units : UnitSizes) (set : ParamFields) : Type 0 where
  pub kind : scheduling_of flow.scheduling_type ≡ Some set.scheduling
  pub required : StatesRequired set.scheduling flow
  pub kept : set ≡ kept_of set.scheduling flow
  pub valid : IsParameterSet set
  pub whole_frames : TakesFrames set.scheduling set units

-- the least required subtype that is missing, where the kind is known
pub record IsLeastMissing (flow : FlowFields) (subtype : ℕ) : Type 0 where
  pub kind : Scheduling
  pub known : scheduling_of flow.scheduling_type ≡ Some kind
  pub least : missing_of kind flow ≡ Some subtype
