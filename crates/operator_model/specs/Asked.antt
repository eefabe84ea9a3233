-- What the encodings of a request ask for: the checks that ask for no room, in executable form, one after the other as the
-- operator's machine does them. The same checks as a table, each with its condition in the standard's terms and its code,
-- stand in trace_report (table/Table.antt); its law `verdict_is_decided` says that both give the same answer. The conditions are
-- those of CM-SP-MULPIv3.1, 11.2.2 and 11.2.3; which case gets which code is implementation-specific.
use Rattle.std.specs.Prelude.{◌==◌, ◌&&◌, ◌||◌, ℕ, Bool, true, false, not, List, [], ◌∷◌, find, Option, Some, None, Result, Ok, Err, is_some, is_none, if◌then◌else◌}
use Rattle.std.specs.Option.{option_map}
use Rattle.std.specs.List.{list_all}
use Rattle.lists.specs.Results.{◌>>=◌}
use Rattle.tlv24.specs.Subtype.{reference_subtype, sfid_subtype, class_name_subtype, set_type_subtype, scheduling_type_subtype}
use Rattle.tlv24.specs.SetType.{set_type_number, set_type_of}
use Rattle.tlv24.specs.declared.set_type.SetType.{SetType}
use Rattle.tlv24.specs.declared.set_type.SetType.TheVariants.{Null, Admitted, Active, AdmittedAndActive}
use Rattle.tlv24.specs.declared.fields.FlowFields.{FlowFields}
use Rattle.dsx_messages.specs.declared.modem.Modem.{Modem}
use Rattle.dsx_messages.specs.declared.kind.Kind.{Kind}
use Rattle.dsx_messages.specs.declared.kind.Kind.TheVariants.{Dsa, Dsc, Dsd}
use Rattle.dsx_messages.specs.declared.code.Code.{Code}
use Rattle.dsx_messages.specs.declared.code.Code.TheVariants as codes
use Rattle.dsx_messages.specs.declared.reply.FlowId.{FlowId}
use Rattle.dsx_messages.specs.declared.reply.FlowId.TheVariants.{Reference, Sfid}
use Rattle.dsx_messages.specs.declared.reply.Detail.TheVariants.{Nothing, Errored}
use Rattle.dsx_messages.specs.declared.reply.ReplyFields.{ReplyFields}
use Rattle.param_sets.specs.Units.{UnitSizes}
use Rattle.param_sets.specs.Reading.{parameter_set_of}
use Rattle.param_sets.specs.Within.{first_failing}
use Rattle.param_sets.specs.Sets.{failing_in_provisioned}
use Rattle.param_sets.specs.declared.param_set.ParamFields.{ParamFields}
use Rattle.param_sets.specs.declared.sets.SetsFields.{SetsFields}
use Rattle.param_sets.specs.declared.refusal.Refusal.{Refusal}
use Rattle.plant.specs.declared.consts.ConstsFields.{ConstsFields}
use Rattle.plant.specs.declared.class_table.Class.{Class}
use Rattle.plant.specs.Classes.{asked_of}
use Rattle.plant.specs.Row.{same_modem}
use Rattle.flow_table.specs.declared.flow.Flow.{Flow}
use Rattle.flow_table.specs.Table.{flow_at}
use Rattle.operator_model.specs.declared.verdict.Transaction.{Transaction}
use Rattle.operator_model.specs.declared.verdict.AskedSets.{AskedSets}
use Rattle.operator_model.specs.declared.verdict.Addition.{Addition}
use Rattle.operator_model.specs.declared.verdict.Change.{Change}

-- the transaction of this modem, kind and transaction ID
abbrev pub transaction : Modem → Kind → ℕ → Transaction
transaction modem kind tid = record { modem = modem; kind = kind; tid = tid }

-- ---- refusals

-- a refusal that names nothing
abbrev pub refusal : Kind → ℕ → Code → ReplyFields
refusal kind tid code = record { kind = kind; tid = tid; code = code; detail = Nothing }

-- how a request of this kind names the flow of an encoding: an addition by its reference, a change by its SFID
abbrev pub id_of : Kind → FlowFields → Option FlowId
id_of Dsa flow = option_map Reference flow.reference
id_of Dsc flow = option_map Sfid flow.sfid
id_of Dsd flow = None

-- a refusal that names an encoding and one of its subtypes
abbrev pub refusal_naming : Transaction → Code → FlowFields → ℕ → ReplyFields
refusal_naming t code flow subtype = record { kind = t.kind; tid = t.tid; code = code; detail = Errored (id_of t.kind flow) subtype }

-- what is stated, or this refusal
abbrev pub stated_or_refusal : {X : Type 0} → Option X → ReplyFields → Result X ReplyFields
stated_or_refusal None reply = Err reply
stated_or_refusal (Some x) reply = Ok x

-- ---- checks 5 to 8: which encodings are together

-- the identifier as a number
abbrev pub id_number : Kind → FlowFields → Option ℕ
id_number Dsa flow = flow.reference
id_number Dsc flow = flow.sfid
id_number Dsd flow = None

-- two absent numbers are the same, and an absent one differs from every number
abbrev pub is_same : Option ℕ → Option ℕ → Bool
is_same None None = true
is_same (Some a) (Some b) = a == b
is_same a b = false

-- an encoding states this set type (Annex C, subtype 6)
abbrev pub has_set_type : SetType → FlowFields → Bool
has_set_type set_type flow = is_same flow.set_type (Some (set_type_number set_type))

-- one encoding alone; or two of which one is for the admitted set and the other for the active set
abbrev pub stand_together : List FlowFields → Bool
stand_together (flow ∷ []) = true
stand_together (a ∷ b ∷ []) =
    (has_set_type Admitted a && has_set_type Active b) || (has_set_type Active a && has_set_type Admitted b)
stand_together flows = false

-- the first of the encodings: there is none; their identifiers differ; they may not be together
abbrev pub first_of : Transaction → List FlowFields → Result FlowFields ReplyFields
first_of t [] = Err (refusal t.kind t.tid codes.RejectRequiredParameterNotPresent)
first_of t (first ∷ others) =
    if not (list_all (λ other. is_same (id_number t.kind first) (id_number t.kind other)) others) then Err (refusal t.kind t.tid codes.RejectMultipleUpstreamFlows) else
    if not (stand_together (first ∷ others)) then Err (refusal t.kind t.tid codes.RejectDuplicateReference) else
    Ok first

-- no class has the name that an encoding states
abbrev pub is_unclassed : List Class → FlowFields → Bool
is_unclassed classes flow = is_none (asked_of classes flow)

-- the first of the encodings, or a refusal that names the class of the first unclassed one, if there is one (check 5)
abbrev pub first_unless : Option FlowFields → Transaction → List FlowFields → Result FlowFields ReplyFields
first_unless (Some flow) t encodings = Err (refusal_naming t codes.RejectPermanent flow class_name_subtype)
first_unless None t encodings = first_of t encodings

-- checks 5 to 8: the first of the encodings, unless one of them names an unknown class: the first such in order of bytes
unfoldable pub first_encoding : Transaction → List Class → List FlowFields → Result FlowFields ReplyFields
first_encoding t classes encodings = first_unless (find (is_unclassed classes) encodings) t encodings

-- ---- checks 10 to 12: whether the flow may be changed or deleted now

-- checks 10 to 12: the flow, unless there is none, it is another modem's, or it waits for an acknowledgement
abbrev pub free_flow : Transaction → Option Flow → Result Flow ReplyFields
free_flow t None = Err (refusal t.kind t.tid codes.RejectFlowNotFound)
free_flow t (Some flow) =
    if not (same_modem flow.modem t.modem) then Err (refusal t.kind t.tid codes.RejectNotOwner) else
    if is_some flow.pending then Err (refusal t.kind t.tid codes.RejectTemporary) else
    Ok flow

-- ---- checks 13 and 14: the parameter sets that are asked for

-- a parameter set, or a refusal that names the encoding and the subtype that fails
abbrev pub set_or_refusal : Transaction → FlowFields → Result ParamFields Refusal → Result ParamFields ReplyFields
set_or_refusal t flow (Ok set) = Ok set
set_or_refusal t flow (Err r) = Err (refusal_naming t r.code flow r.subtype)

-- the parameter set of an encoding over its class, or a refusal: no class has that name, or the set is refused
abbrev pub set_over_class : Transaction → UnitSizes → FlowFields → Option FlowFields → Result ParamFields ReplyFields
set_over_class t units flow None = Err (refusal_naming t codes.RejectPermanent flow class_name_subtype)
set_over_class t units flow (Some asked) = set_or_refusal t flow (parameter_set_of asked units)

-- the set of an encoding: it is refused as the set of what it asks for over its class
unfoldable pub set_of : Transaction → ConstsFields → FlowFields → Result ParamFields ReplyFields
set_of t consts flow = set_over_class t consts.units flow (asked_of consts.classes flow)

-- a request of this kind changes a flow: DSC
abbrev pub is_change : Kind → Bool
is_change Dsa = false
is_change Dsc = true
is_change Dsd = false

-- one encoding: its set is to be admitted, or admitted and active; the null set type makes both null, in a change
abbrev pub asked_by_type : Transaction → ConstsFields → FlowFields → Option SetType → Result AskedSets ReplyFields
asked_by_type t consts flow (Some Admitted) = set_of t consts flow >>= λ set. Ok (record { admitted = Some set; active = None })
asked_by_type t consts flow (Some AdmittedAndActive) = set_of t consts flow >>= λ set. Ok (record { admitted = Some set; active = Some set })
asked_by_type t consts flow (Some Null) =
    if is_change t.kind then Ok (record { admitted = None; active = None }) else
    Err (refusal_naming t codes.RejectInvalidForContext flow set_type_subtype)
asked_by_type t consts flow other = Err (refusal_naming t codes.RejectInvalidForContext flow set_type_subtype)

-- the sets that one encoding asks for, or a refusal where it states no set type or one that is not taken
abbrev pub asked_by_one : Transaction → ConstsFields → FlowFields → Option ℕ → Result AskedSets ReplyFields
asked_by_one t consts flow None = Err (refusal_naming t codes.RejectRequiredParameterNotPresent flow set_type_subtype)
asked_by_one t consts flow (Some n) = asked_by_type t consts flow (set_type_of n)

-- two encodings in order of bytes, of which one admits and the other activates
abbrev pub asked_in_order : FlowFields → ParamFields → ParamFields → AskedSets
asked_in_order first a b =
    if has_set_type Admitted first then record { admitted = Some a; active = Some b } else
    record { admitted = Some b; active = Some a }

-- the sets that two encodings ask for: one the admitted set, the other the active set
abbrev pub asked_by_two : Transaction → ConstsFields → FlowFields → FlowFields → Result AskedSets ReplyFields
asked_by_two t consts first second =
    set_of t consts first >>= λ a. set_of t consts second >>= λ b. Ok (asked_in_order first a b)

-- the admitted and the active set that the encodings of a request ask for, or the refusal of the first that gives none (checks 13 and 14)
unfoldable pub asked_sets : Transaction → ConstsFields → List FlowFields → Result AskedSets ReplyFields
asked_sets t consts (flow ∷ []) = asked_by_one t consts flow flow.set_type
asked_sets t consts (first ∷ second ∷ []) = asked_by_two t consts first second
asked_sets t consts flows = Err (refusal t.kind t.tid codes.RejectDuplicateReference)

-- ---- checks 15 and 16: active within admitted, admitted within provisioned

-- the first subtype in which the active set is not within the admitted one
abbrev pub failing_active : Option ParamFields → Option ParamFields → Option ℕ
failing_active None admitted = None
failing_active (Some active) None = Some scheduling_type_subtype
failing_active (Some active) (Some admitted) = first_failing active admitted

-- the first subtype in which the admitted set is not within the provisioned one
abbrev pub failing_admitted : Option ParamFields → Option ParamFields → Option ℕ
failing_admitted None provisioned = None
failing_admitted (Some admitted) provisioned = failing_in_provisioned admitted provisioned

-- the flow's sets with those that are asked for, or a refusal that names the subtype that fails: of the active set (check 15), else of the
-- admitted set (check 16)
abbrev pub nested_unless : Transaction → FlowFields → Option ParamFields → AskedSets → Option ℕ → Option ℕ → Result SetsFields ReplyFields
nested_unless t first provisioned asked (Some subtype) other = Err (refusal_naming t codes.RejectInvalidForContext first subtype)
nested_unless t first provisioned asked None (Some subtype) = Err (refusal_naming t codes.RejectAuthorizationFailure first subtype)
nested_unless t first provisioned asked None None = Ok (record { provisioned = provisioned; admitted = asked.admitted; active = asked.active })

-- checks 15 and 16: the flow's sets with those that are asked for
unfoldable pub nested_sets : Transaction → FlowFields → Option ParamFields → AskedSets → Result SetsFields ReplyFields
nested_sets t first provisioned asked =
    nested_unless t first provisioned asked (failing_active asked.active asked.admitted) (failing_admitted asked.admitted provisioned)

-- ---- the checks in their order

-- an addition: checks 5 to 9, 13 and 14, 15 (a new flow has no provisioned set)
unfoldable pub addition_of : ConstsFields → Transaction → List FlowFields → Result Addition ReplyFields
addition_of consts t encodings = do
  first ← first_encoding t consts.classes encodings
  reference ← stated_or_refusal first.reference (refusal_naming t codes.RejectRequiredParameterNotPresent first reference_subtype)
  asked ← asked_sets t consts encodings
  sets ← nested_sets t first None asked
  Ok (record { reference = reference; sets = sets })

-- a change: checks 5 to 16
unfoldable pub change_of : ConstsFields → List (ℕ × Flow) → Transaction → List FlowFields → Result Change ReplyFields
change_of consts flows t encodings = do
  first ← first_encoding t consts.classes encodings
  sfid ← stated_or_refusal first.sfid (refusal_naming t codes.RejectRequiredParameterNotPresent first sfid_subtype)
  flow ← free_flow t (flow_at sfid flows)
  asked ← asked_sets t consts encodings
  sets ← nested_sets t first flow.sets.provisioned asked
  Ok (record { sfid = sfid; flow = flow; sets = sets })
