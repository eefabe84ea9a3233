-- Refusals are well formed.
use Rattle.std.proofs.Common.{◌≡◌, ℕ, Option, refl, rules, subst}
use Rattle.operator_book.proofs.Common.{◌≢◌, IfSome, Some, None, Result, Ok, Err, Kind, Dsa, Dsc, Dsd, Okay, RejectRequiredParameterNotPresent, RejectInvalidForContext, FlowFields, scheduling_of, Scheduling, ParamFields, Refusal}
use Rattle.dsx_messages.specs.WellFormed.{IsFlowIdOf, GoesWith}
use Rattle.dsx_messages.specs.declared.code.Code.{Code}
use Rattle.dsx_messages.specs.declared.reply.FlowId.{FlowId}
use Rattle.dsx_messages.specs.declared.reply.Detail.TheVariants.{Nothing, Errored}
use Rattle.param_sets.specs.Units.{UnitSizes}
use Rattle.param_sets.specs.Kept.{kept_of, missing_of}
use Rattle.param_sets.specs.Reading.{invalid_of, set_unless, set_of_kind, parameter_set_of}

pub refuses : (kind : Kind) (code : Code) → code ≢ Okay → GoesWith kind code Nothing
refuses Dsa code refused = refused
refuses Dsc code refused = refused
refuses Dsd code refused = tt

pub refuses_naming : (kind : Kind) (code : Code) (id : Option FlowId) (subtype : ℕ) → kind ≢ Dsd → code ≢ Okay → IfSome id (IsFlowIdOf kind)
    → GoesWith kind code (Errored id subtype)
refuses_naming Dsa code id subtype other refused names = (refused, names)
refuses_naming Dsc code id subtype other refused names = (refused, names)
refuses_naming Dsd code id subtype other refused names = other refl

-- a set is never refused with the code of an acceptance

abbrev IsRefusal : Result ParamFields Refusal → Type 0
IsRefusal (Ok set) = Unit {0}
IsRefusal (Err r) = r.code ≢ Okay

required : RejectRequiredParameterNotPresent ≢ Okay
required = search rules

invalid : RejectInvalidForContext ≢ Okay
invalid = search rules

unless_refuses : (missing wrong : Option ℕ) (set : ParamFields) → IsRefusal (set_unless missing wrong set)
unless_refuses (Some n) wrong set = required
unless_refuses None (Some n) set = invalid
unless_refuses None None set = tt

kind_refuses : (kind : Option Scheduling) (flow : FlowFields) (units : UnitSizes) → IsRefusal (set_of_kind kind flow units)
kind_refuses None flow units = invalid
kind_refuses (Some kind) flow units = unless_refuses (missing_of kind flow) (invalid_of (kept_of kind flow) units) (kept_of kind flow)

pub set_is_refused : (flow : FlowFields) (units : UnitSizes) (r : Refusal) → parameter_set_of flow units ≡ Err r → r.code ≢ Okay
set_is_refused flow units r e = subst (λ (x : Result ParamFields Refusal). IsRefusal x) e (kind_refuses (scheduling_of flow.scheduling_type) flow units)
