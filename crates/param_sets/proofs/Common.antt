-- The names that several proofs of this crate cite, passed on from one place. Declares nothing.
pub use Rattle.dsx_messages.specs.declared.code.Code.TheVariants.{RejectRequiredParameterNotPresent, RejectInvalidForContext}
pub use Rattle.param_sets.specs.AsksFor.{AsksFor, StatesRequired, TakesFrames, IsLeastMissing}
pub use Rattle.param_sets.specs.FirstTrue.{first_true}
pub use Rattle.param_sets.specs.Kept.{kept_of, missings_of, missing_of}
pub use Rattle.param_sets.specs.ParamSet.{IsParameterSet, HasGrants}
pub use Rattle.param_sets.specs.Reading.{invalids_of, invalid_of, set_unless, set_of_kind, parameter_set_of}
pub use Rattle.param_sets.specs.Scheduling.{scheduling_of, scheduling_number}
pub use Rattle.param_sets.specs.Units.{UnitSizes, frames_in_interval}
pub use Rattle.param_sets.specs.declared.param_set.ParamFields.{ParamFields}
pub use Rattle.param_sets.specs.declared.refusal.Refusal.{Refusal}
pub use Rattle.param_sets.specs.declared.scheduling.Scheduling.{Scheduling}
pub use Rattle.param_sets.specs.declared.scheduling.Scheduling.TheVariants.{BestEffort, NonRealTimePolling, RealTimePolling, UnsolicitedGrant}
pub use Rattle.std.proofs.lemmas.Bool.Decides.{nat_tests}
pub use Rattle.std.specs.Prelude.{Option, Some, None, Result, Ok, IsSome, IfOk, IfSome, unwrap_or, Err, ◌↔◌}
pub use Rattle.tlv24.specs.Range.{AreInRange}
pub use Rattle.tlv24.specs.Subtype.{scheduling_type_subtype}
pub use Rattle.tlv24.specs.declared.fields.FlowFields.{FlowFields}
