-- What a refusal says: the scheduling type is named where the kind is unknown, and a missing subtype where it is required.
use Rattle.std.proofs.Common.{◌≡◌, ℕ, Bool, true, false, List, [], ◌∷◌, refl, ◌∙◌, ap, arith}
use Rattle.param_sets.proofs.Common.{Option, Some, None, Result, Ok, Err, ◌↔◌, scheduling_type_subtype, FlowFields, RejectRequiredParameterNotPresent, RejectInvalidForContext, first_true, UnitSizes, scheduling_of, kept_of, missing_of, IsLeastMissing, invalids_of, invalid_of, set_unless, set_of_kind, parameter_set_of, Scheduling, BestEffort, NonRealTimePolling, RealTimePolling, UnsolicitedGrant, ParamFields, Refusal}
use Rattle.dsx_messages.specs.declared.code.Code.{Code}

-- no row names this number
abbrev NamesOthers : ℕ → List (Bool × ℕ) → Type 0
NamesOthers number [] = Unit {0}
NamesOthers number (row ∷ rows) = (row.1 ≡ number → ⊥) × NamesOthers number rows

not_first : (test : Bool) (other number : ℕ) (rows : List (Bool × ℕ)) → (other ≡ number → ⊥) → (first_true rows ≡ Some number → ⊥)
    → first_true ((test, other) ∷ rows) ≡ Some number → ⊥
not_first true other number rows here after same = here cc
not_first false other number rows here after same = after same

not_named : (number : ℕ) (rows : List (Bool × ℕ)) → NamesOthers number rows → first_true rows ≡ Some number → ⊥
not_named number [] others same = cc
not_named number (row ∷ rows) others same = not_first row.0 row.1 number rows others.0 (not_named number rows others.1) same

-- no test of a set is of its kind
others : (kind : Scheduling) (set : ParamFields) (units : UnitSizes) → NamesOthers scheduling_type_subtype (invalids_of kind set units)
others BestEffort set units = tt
others NonRealTimePolling set units = (λ e. omega arith, tt)
others RealTimePolling set units = (λ e. omega arith, tt)
others UnsolicitedGrant set units = (λ e. omega arith, (λ e. omega arith, (λ e. omega arith, tt)))

abbrev code_in : Result ParamFields Refusal → Option Code
code_in (Ok set) = None
code_in (Err refusal) = Some refusal.code

abbrev subtype_in : Result ParamFields Refusal → Option ℕ
subtype_in (Ok set) = None
subtype_in (Err refusal) = Some refusal.subtype

known_is_not_unknown : (set : ParamFields) (missing invalid : Option ℕ) → (invalid ≡ Some scheduling_type_subtype → ⊥)
    → set_unless missing invalid set ≡ Err (record { code = RejectInvalidForContext; subtype = scheduling_type_subtype }) → ⊥
known_is_not_unknown set (Some missing) invalid other same = cc (ap code_in same)
known_is_not_unknown set None (Some invalid) other same = other (ap subtype_in same)
known_is_not_unknown set None None other same = cc

unknown_of_kind : (kind : Option Scheduling) (flow : FlowFields) (units : UnitSizes)
    → set_of_kind kind flow units ≡ Err (record { code = RejectInvalidForContext; subtype = scheduling_type_subtype }) → kind ≡ None
unknown_of_kind None flow units same = refl
unknown_of_kind (Some kind) flow units same =
    absurd (known_is_not_unknown (kept_of kind flow) (missing_of kind flow) (invalid_of (kept_of kind flow) units)
    (not_named scheduling_type_subtype (invalids_of kind (kept_of kind flow) units) (others kind (kept_of kind flow) units)) same)

-- an unknown kind is refused, and the scheduling type is named for nothing else
pub is_unknown : (flow : FlowFields) (units : UnitSizes) → (parameter_set_of flow units ≡ Err (record { code = RejectInvalidForContext; subtype = scheduling_type_subtype })) ↔ (scheduling_of flow.scheduling_type ≡ None)
is_unknown flow units = (unknown_of_kind (scheduling_of flow.scheduling_type) flow units, λ none. ap (λ (o : Option Scheduling). set_of_kind o flow units) none)

least_unless : (set : ParamFields) (missing invalid : Option ℕ) (subtype : ℕ)
    → set_unless missing invalid set ≡ Err (record { code = RejectRequiredParameterNotPresent; subtype = subtype }) → missing ≡ Some subtype
least_unless set (Some missing) invalid subtype same = ap subtype_in same
least_unless set None (Some invalid) subtype same = cc (ap code_in same)
least_unless set None None subtype same = cc

least_of_kind : (kind : Option Scheduling) (flow : FlowFields) (units : UnitSizes) (subtype : ℕ) → scheduling_of flow.scheduling_type ≡ kind
    → set_of_kind kind flow units ≡ Err (record { code = RejectRequiredParameterNotPresent; subtype = subtype }) → IsLeastMissing flow subtype
least_of_kind None flow units subtype known same = cc (ap code_in same)
least_of_kind (Some kind) flow units subtype known same = record {
  kind = kind;
  known = known;
  least = least_unless (kept_of kind flow) (missing_of kind flow) (invalid_of (kept_of kind flow) units) subtype same;
}

-- what is missing is refused, the least of it first
pub is_missing : (flow : FlowFields) (units : UnitSizes) (subtype : ℕ)
    → (parameter_set_of flow units ≡ Err (record { code = RejectRequiredParameterNotPresent; subtype = subtype })) ↔ IsLeastMissing flow subtype
is_missing flow units subtype = (
  least_of_kind (scheduling_of flow.scheduling_type) flow units subtype refl,
  λ (least : IsLeastMissing flow subtype).
      ap (λ (o : Option Scheduling). set_of_kind o flow units) least.known
      ∙ ap (λ (o : Option ℕ). set_unless o (invalid_of (kept_of least.kind flow) units) (kept_of least.kind flow)) least.least,
)
