-- The sets of a flow, and what is refused (implementation-specific).
use Rattle.std.specs.Prelude.{ℕ, Option, Some, None, Result, Ok, Err}
use Rattle.tlv24.specs.Subtype.{scheduling_type_subtype}
use Rattle.dsx_messages.specs.declared.code.Code.{Code}
use Rattle.dsx_messages.specs.declared.code.Code.TheVariants.{RejectAuthorizationFailure, RejectInvalidForContext}
use Rattle.param_sets.specs.Within.{IsWithinOrNull, first_failing}
use Rattle.param_sets.specs.declared.param_set.ParamFields.{ParamFields}
use Rattle.param_sets.specs.declared.refusal.Refusal.{Refusal}
use Rattle.param_sets.specs.declared.sets.SetsFields.{SetsFields}

-- within the provisioned set, where there is one
abbrev pub IsWithinProvisioned : Option ParamFields → Option ParamFields → Type 0
IsWithinProvisioned set None = Unit {0}
IsWithinProvisioned set (Some provisioned) = IsWithinOrNull set (Some provisioned)

-- the active set is within the admitted one, and that one within the provisioned one where there is one; the type `Sets` keeps it
pub record AreNested (sets : SetsFields) : Type 0 where
  pub active : IsWithinOrNull sets.active sets.admitted
  pub admitted : IsWithinProvisioned sets.admitted sets.provisioned

-- the first subtype in which a set is not within the provisioned one, where there is one
abbrev pub failing_in_provisioned : ParamFields → Option ParamFields → Option ℕ
failing_in_provisioned set None = None
failing_in_provisioned set (Some provisioned) = first_failing set provisioned

-- the first subtype in which a set is not within the admitted one: the scheduling type where none is admitted
abbrev pub failing_in_admitted : ParamFields → Option ParamFields → Option ℕ
failing_in_admitted set None = Some scheduling_type_subtype
failing_in_admitted set (Some admitted) = first_failing set admitted

-- these sets, or a refusal with this code where a subtype fails
abbrev pub sets_unless : Option ℕ → Code → SetsFields → Result SetsFields Refusal
sets_unless None code sets = Ok sets
sets_unless (Some subtype) code sets = Err (record { code = code; subtype = subtype })

-- the sets with this one admitted and none active
abbrev pub admit_of : SetsFields → ParamFields → Result SetsFields Refusal
admit_of sets set =
    sets_unless (failing_in_provisioned set sets.provisioned) RejectAuthorizationFailure
    (record { provisioned = sets.provisioned; admitted = Some set; active = None })

-- the sets with this one active
abbrev pub activate_of : SetsFields → ParamFields → Result SetsFields Refusal
activate_of sets set =
    sets_unless (failing_in_admitted set sets.admitted) RejectInvalidForContext
    (record { provisioned = sets.provisioned; admitted = sets.admitted; active = Some set })
