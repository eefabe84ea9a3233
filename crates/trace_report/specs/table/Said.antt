-- What a request says (CM-SP-MULPIv3.1, 6.4.12, 6.4.15 and 6.4.18, and Annex C, type 24), and what it asks for.
use Rattle.std.specs.Prelude.{◌≡◌, ℕ, List, [], All, Any, Contains, Option, Some, None, Result, Ok, Err, ◌⊎◌}
use Rattle.std.specs.Option.{option_map}
use Rattle.tlv24.specs.Subtype.{reference_subtype, sfid_subtype}
use Rattle.tlv24.specs.SetType.{set_type_number}
use Rattle.tlv24.specs.declared.fields.FlowFields.{FlowFields}
use Rattle.tlv24.specs.declared.set_type.SetType.{SetType}
use Rattle.tlv24.specs.declared.set_type.SetType.TheVariants.{Admitted, Active, AdmittedAndActive}
use Rattle.dsx_messages.specs.declared.kind.Kind.{Kind}
use Rattle.dsx_messages.specs.declared.kind.Kind.TheVariants.{Dsa, Dsc, Dsd}
use Rattle.dsx_messages.specs.declared.message.Request.{Request}
use Rattle.dsx_messages.specs.declared.message.Request.TheVariants as requests
use Rattle.dsx_messages.specs.declared.reply.FlowId.{FlowId}
use Rattle.dsx_messages.specs.declared.reply.FlowId.TheVariants as ids
use Rattle.param_sets.specs.Reading.{parameter_set_of}
use Rattle.param_sets.specs.declared.param_set.ParamFields.{ParamFields}
use Rattle.param_sets.specs.declared.refusal.Refusal.{Refusal}
use Rattle.plant.specs.declared.consts.ConstsFields.{ConstsFields}
use Rattle.plant.specs.Classes.{asked_of}
use Rattle.flow_table.specs.declared.flow.Flow.{Flow}
use Rattle.operator_model.specs.State.{Operator}

-- what a request of any kind says: its kind, its transaction ID, its flow encodings, and the SFID of a deletion
pub record Said : Type 0 where
  pub kind : Kind
  pub tid : ℕ
  -- the flow encodings in the order of bytes; a deletion has none
  pub encodings : List FlowFields
  -- the SFID in the fixed part of a deletion
  pub sfid : Option ℕ

-- what a request says: its kind, its transaction ID, and its flow encodings (DSA, DSC) or its SFID (DSD)
abbrev pub said_by : Request → Said
said_by (requests.Dsa tid encodings) = record { kind = Dsa; tid = tid; encodings = encodings; sfid = None }
said_by (requests.Dsc tid encodings) = record { kind = Dsc; tid = tid; encodings = encodings; sfid = None }
said_by (requests.Dsd tid sfid) = record { kind = Dsd; tid = tid; encodings = []; sfid = Some sfid }

-- ---- the flow

-- the identifier of an encoding: the reference in an addition, the SFID in a change
abbrev pub identifier : Kind → FlowFields → Option ℕ
identifier Dsa encoding = encoding.reference
identifier Dsc encoding = encoding.sfid
identifier Dsd encoding = None

-- the same, as a reply reports it
abbrev pub told_identifier : Kind → FlowFields → Option FlowId
told_identifier Dsa encoding = option_map ids.Reference encoding.reference
told_identifier Dsc encoding = option_map ids.Sfid encoding.sfid
told_identifier Dsd encoding = None

-- the subtype of the identifier; a deletion has none
abbrev pub identifier_subtype : Kind → ℕ
identifier_subtype Dsa = reference_subtype
identifier_subtype Dsc = sfid_subtype
identifier_subtype Dsd = 0

-- the SFID that a request names: of its encodings in a change, of its fixed part in a deletion; an addition names
-- none
abbrev pub NamesFlow : Kind → List FlowFields → Option ℕ → ℕ → Type 0
NamesFlow Dsa encodings fixed sfid = ⊥
NamesFlow Dsc encodings fixed sfid = Any (λ encoding. encoding.sfid ≡ Some sfid) encodings
NamesFlow Dsd encodings fixed sfid = fixed ≡ Some sfid

-- the flow of this SFID, which the request names
abbrev pub IsOfFlow : Operator → Said → ℕ → Flow → Type 0
IsOfFlow op said sfid flow = NamesFlow said.kind said.encodings said.sfid sfid × Contains op.state.flows (sfid, flow)

-- the flow that a request is about, where it is already: an addition is about none that is present
abbrev pub IsAbout : Operator → Said → Option Flow → Type 0
IsAbout op said None = said.kind ≡ Dsa
IsAbout op said (Some flow) = (sfid : ℕ) × IsOfFlow op said sfid flow

-- ---- the sets

-- the parameter set of an encoding, over its class where it names one, or why it has none; a class that the plant has
-- not gives neither
abbrev pub set_asked : ConstsFields → FlowFields → Option (Result ParamFields Refusal)
set_asked consts encoding =
    option_map (λ asked. parameter_set_of asked consts.units) (asked_of consts.classes encoding)

-- an encoding has this parameter set, over its class where it names one
abbrev pub EncodingAsksFor : ConstsFields → FlowFields → ParamFields → Type 0
EncodingAsksFor consts encoding set = set_asked consts encoding ≡ Some (Ok set)

-- an encoding has no parameter set, for this reason
abbrev pub EncodingIsRefused : ConstsFields → FlowFields → Refusal → Type 0
EncodingIsRefused consts encoding refusal = set_asked consts encoding ≡ Some (Err refusal)

-- what an encoding states as its set type is this one
abbrev pub IsSetType : SetType → Option ℕ → Type 0
IsSetType set_type stated = stated ≡ Some (set_type_number set_type)

-- the set of the encoding is to be admitted
abbrev pub Admits : FlowFields → Type 0
Admits encoding = IsSetType Admitted encoding.set_type ⊎ IsSetType AdmittedAndActive encoding.set_type

-- the set of the encoding is to be active: its set type is for the active set, or for the admitted and the active set
abbrev pub Activates : FlowFields → Type 0
Activates encoding = IsSetType Active encoding.set_type ⊎ IsSetType AdmittedAndActive encoding.set_type

-- the set of an encoding of which P holds; the null set where P holds of none
abbrev pub IsSetWhere : (FlowFields → Type 0) → ConstsFields → List FlowFields → Option ParamFields → Type 0
IsSetWhere P consts encodings None = All (λ encoding. ¬ P encoding) encodings
IsSetWhere P consts encodings (Some set) = Any (λ encoding. P encoding × EncodingAsksFor consts encoding set) encodings

-- the set that a request asks to be admitted: the null set where no encoding is for it
abbrev pub IsToBeAdmitted : Operator → Said → Option ParamFields → Type 0
IsToBeAdmitted op said set = IsSetWhere Admits op.consts said.encodings set

-- the set that a request asks to be active: the null set where no encoding is for it
abbrev pub IsToBeActive : Operator → Said → Option ParamFields → Type 0
IsToBeActive op said set = IsSetWhere Activates op.consts said.encodings set
