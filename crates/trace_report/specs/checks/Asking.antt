-- What a request is about and what it asks for, as lists of all that the definitions allow (implementation-specific; for inner functions).
use Rattle.std.specs.Prelude.{◌&&◌, ◌||◌, ℕ, Bool, true, false, List, [], ◌∷◌, ◌++◌, map, filter, Option, Some, None, Result, Ok, Err, is_some, if◌then◌else◌}
use Rattle.std.specs.List.{list_any}
use Rattle.tlv24.specs.declared.fields.FlowFields.{FlowFields}
use Rattle.tlv24.specs.declared.set_type.SetType.TheVariants.{Admitted, Active, AdmittedAndActive}
use Rattle.dsx_messages.specs.declared.kind.Kind.{Kind}
use Rattle.dsx_messages.specs.declared.kind.Kind.TheVariants.{Dsa, Dsc, Dsd}
use Rattle.param_sets.specs.declared.param_set.ParamFields.{ParamFields}
use Rattle.param_sets.specs.declared.refusal.Refusal.{Refusal}
use Rattle.plant.specs.declared.consts.ConstsFields.{ConstsFields}
use Rattle.flow_table.specs.declared.flow.Flow.{Flow}
use Rattle.operator_model.specs.State.{Operator}
use Rattle.operator_model.specs.Asked.{is_same, has_set_type}
use Rattle.trace_report.specs.table.Said.{Said, set_asked}
use Rattle.trace_report.specs.declared.checks.asking.Use.{Use}
use Rattle.trace_report.specs.declared.checks.asking.Use.TheVariants.{Admit, Activate}

-- a request of this kind adds a flow: DSA
abbrev pub is_addition : Kind → Bool
is_addition Dsa = true
is_addition Dsc = false
is_addition Dsd = false

-- a request of this kind deletes a flow: DSD
abbrev pub is_deletion : Kind → Bool
is_deletion Dsa = false
is_deletion Dsc = false
is_deletion Dsd = true

-- ---- the flow

-- the request names this SFID
abbrev pub names : Kind → List FlowFields → Option ℕ → ℕ → Bool
names Dsa encodings fixed sfid = false
names Dsc encodings fixed sfid = list_any (λ encoding. is_same encoding.sfid (Some sfid)) encodings
names Dsd encodings fixed sfid = is_same fixed (Some sfid)

-- the flow of an entry
abbrev pub subject_of : ℕ × Flow → Option Flow
subject_of entry = Some entry.1

-- the request names the SFID of this entry
abbrev pub is_named_in : Said → ℕ × Flow → Bool
is_named_in said entry = names said.kind said.encodings said.sfid entry.0

-- the flows that a request is about: none that is present, where it adds one
abbrev pub subjects_of : Operator → Said → List (Option Flow)
subjects_of op said = (if is_addition said.kind then None ∷ [] else []) ++ map subject_of (filter (is_named_in said) op.state.flows)

-- ---- the sets

-- the set type says that the set is to be put to this use
abbrev pub is_for : Use → FlowFields → Bool
is_for Admit encoding = has_set_type Admitted encoding || has_set_type AdmittedAndActive encoding
is_for Activate encoding = has_set_type Active encoding || has_set_type AdmittedAndActive encoding

-- the parameter set that an encoding gives, if it has one and is not refused
abbrev pub ok_of : Option (Result ParamFields Refusal) → Option ParamFields
ok_of None = None
ok_of (Some (Ok set)) = Some set
ok_of (Some (Err refusal)) = None

-- the set of an encoding, where it has one
abbrev pub set_given : ConstsFields → FlowFields → Option ParamFields
set_given consts encoding = ok_of (set_asked consts encoding)

-- an encoding is for this use, and has a set
abbrev pub gives_for : Use → ConstsFields → FlowFields → Bool
gives_for for_use consts encoding = is_for for_use encoding && is_some (set_given consts encoding)

-- the sets that a request asks to be put to this use: the null set where no encoding is for it
abbrev pub encoding_sets : Use → Operator → Said → List (Option ParamFields)
encoding_sets for_use op said =
    (if list_any (is_for for_use) said.encodings then [] else None ∷ [])
    ++ map (set_given op.consts) (filter (gives_for for_use op.consts) said.encodings)
