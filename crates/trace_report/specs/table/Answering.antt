-- What each check of the table answers (which case gets which code is implementation-specific).
use Rattle.std.specs.Prelude.{◌≡◌, ℕ, Bool, true, false, [], ◌∷◌, Any, Contains, Option, Some, None}
use Rattle.tlv24.specs.Subtype.{class_name_subtype, set_type_subtype}
use Rattle.tlv24.specs.declared.fields.FlowFields.{FlowFields}
use Rattle.dsx_messages.specs.declared.modem.Modem.{Modem}
use Rattle.dsx_messages.specs.declared.kind.Kind.{Kind}
use Rattle.dsx_messages.specs.declared.kind.Kind.TheVariants.{Dsa, Dsc, Dsd}
use Rattle.dsx_messages.specs.declared.code.Code.{Code}
use Rattle.dsx_messages.specs.declared.code.Code.TheVariants.{Okay, RejectTemporary, RejectPermanent, RejectNotOwner, RejectFlowNotFound, RejectRequiredParameterNotPresent, RejectDuplicateReference, RejectMultipleUpstreamFlows, RejectInvalidForContext, RejectAuthorizationFailure}
use Rattle.dsx_messages.specs.declared.reply.Detail.{Detail}
use Rattle.dsx_messages.specs.declared.reply.Detail.TheVariants.{Nothing, Given, Errored}
use Rattle.admission.specs.Free.{IsLeastFree}
use Rattle.param_sets.specs.Within.{first_failing}
use Rattle.param_sets.specs.declared.param_set.ParamFields.{ParamFields}
use Rattle.param_sets.specs.declared.refusal.Refusal.{Refusal}
use Rattle.flow_table.specs.declared.flow.Flow.{Flow}
use Rattle.flow_table.specs.Table.{sfids_of, sids_of}
use Rattle.operator_model.specs.declared.verdict.Verdict.{Verdict}
use Rattle.operator_model.specs.declared.verdict.Verdict.TheVariants.{Refused, Put, Deleted}
use Rattle.operator_model.specs.State.{Operator}
use Rattle.lists.specs.First.{IsFirst}
use Rattle.trace_report.specs.table.Said.{Said, told_identifier, identifier_subtype, NamesFlow, IsOfFlow, IsAbout, EncodingIsRefused, IsToBeAdmitted, IsToBeActive}
use Rattle.trace_report.specs.table.Holding.{NamesUnknownClass, GivesNoSet}
use Rattle.trace_report.specs.declared.table.check.Check.{Check}
use Rattle.trace_report.specs.declared.table.check.Check.TheVariants.{UnknownClass, NoEncoding, IdentifiersDiffer, NotTogether, NoIdentifier, UnknownFlow, NotOwner, FlowWaits, WrongSetType, NoParameterSet, ActiveNotWithin, AdmittedNotWithin, FlowsFull, NoSfidFree, NoSidFree, ElementsOver, MinislotsOver, Accepted}

-- ---- refusals

-- a refusal of the request with this confirmation code and this detail
abbrev pub refusal_verdict : Said → Code → Detail → Verdict
refusal_verdict said code detail = Refused (record { kind = said.kind; tid = said.tid; code = code; detail = detail })

-- the invalid encoding, by its identifier, and a subtype
abbrev pub naming : Said → FlowFields → ℕ → Detail
naming said encoding subtype = Errored (told_identifier said.kind encoding) subtype

-- a set type is absent, or not taken
abbrev pub set_type_code : Option ℕ → Code
set_type_code None = RejectRequiredParameterNotPresent
set_type_code (Some n) = RejectInvalidForContext

-- ---- what is accepted

-- a new flow gets the least free identifiers, and waits with the sets that are asked for
pub record IsAdded (op : Operator) (modem : Modem) (said : Said) (answer : Verdict) : Type 0 where
  pub sfid : ℕ
  pub sid : ℕ
  pub reference : ℕ
  pub admitted : Option ParamFields
  pub active : Option ParamFields
  pub is_sfid : IsLeastFree op.row.sfids (sfids_of op.state.flows) sfid
  pub is_sid : IsLeastFree op.row.sids (sids_of op.state.flows) sid
  pub is_reference : Any (λ encoding. encoding.reference ≡ Some reference) said.encodings
  pub is_admitted : IsToBeAdmitted op said admitted
  pub is_active : IsToBeActive op said active
  pub is : answer ≡ Put sfid
      (record {
        modem = modem;
        sid = Some sid;
        sets = record { provisioned = None; admitted = None; active = None };
        pending = Some (record {
          sets = record { provisioned = None; admitted = admitted; active = active };
          sid_is_new = true;
        });
        start = op.state.frame;
        backlog = 0;
        since = op.state.frame;
      })
      (record { kind = Dsa; tid = said.tid; code = Okay; detail = Given (Some reference) sfid (Some sid) })

-- the SID of a changed flow, and whether it is new: its own; where it has none and a set is to be admitted, the least
-- free one
abbrev pub GetsSid : Operator → Option ℕ → Option ParamFields → Option ℕ → Bool → Type 0
GetsSid op (Some own) set sid is_new = (sid ≡ Some own) × (is_new ≡ false)
GetsSid op None None sid is_new = (sid ≡ None) × (is_new ≡ false)
GetsSid op None (Some set) sid is_new =
    (n : ℕ) × IsLeastFree op.row.sids (sids_of op.state.flows) n × (sid ≡ Some n) × (is_new ≡ true)

-- the SID is reported where a set is to be admitted
abbrev pub told_sid : Option ParamFields → Option ℕ → Option ℕ
told_sid None sid = None
told_sid (Some set) sid = sid

-- the flow waits with the sets that are asked for, and keeps its provisioned one
pub record IsAnswerToChange (op : Operator) (said : Said) (answer : Verdict) : Type 0 where
  pub sfid : ℕ
  pub flow : Flow
  pub sid : Option ℕ
  pub sid_is_new : Bool
  pub admitted : Option ParamFields
  pub active : Option ParamFields
  pub is_flow : IsOfFlow op said sfid flow
  pub is_admitted : IsToBeAdmitted op said admitted
  pub is_active : IsToBeActive op said active
  pub is_sid : GetsSid op flow.sid admitted sid sid_is_new
  pub is : answer ≡ Put sfid
      (record flow {
        sid = sid;
        pending = Some (record {
          sets = record { provisioned = flow.sets.provisioned; admitted = admitted; active = active };
          sid_is_new = sid_is_new;
        });
      })
      (record { kind = Dsc; tid = said.tid; code = Okay; detail = Given None sfid (told_sid admitted sid) })

-- the flow goes
pub record IsDeleted (said : Said) (answer : Verdict) : Type 0 where
  pub sfid : ℕ
  pub named : NamesFlow said.kind said.encodings said.sfid sfid
  pub is : answer ≡ Deleted sfid (record { kind = Dsd; tid = said.tid; code = Okay; detail = Nothing })

-- the answer to a request that no check before the last refuses: the flow is added, changed or deleted, by the kind of the request
abbrev pub IsAccepted : Kind → Operator → Modem → Said → Verdict → Type 0
IsAccepted Dsa op modem said answer = IsAdded op modem said answer
IsAccepted Dsc op modem said answer = IsAnswerToChange op said answer
IsAccepted Dsd op modem said answer = IsDeleted said answer

-- ---- the answers

-- what each check answers: its confirmation code, and where it has one the encoding and the subtype that the reply names (which code is
-- implementation-specific)
abbrev pub AnswersCheck : Check → Operator → Modem → Said → Verdict → Type 0
AnswersCheck UnknownClass op modem said answer =
    (encoding : FlowFields) × IsFirst (NamesUnknownClass op.consts.classes) said.encodings encoding
    × (answer ≡ refusal_verdict said RejectPermanent (naming said encoding class_name_subtype))
AnswersCheck NoEncoding op modem said answer = answer ≡ refusal_verdict said RejectRequiredParameterNotPresent Nothing
AnswersCheck IdentifiersDiffer op modem said answer = answer ≡ refusal_verdict said RejectMultipleUpstreamFlows Nothing
AnswersCheck NotTogether op modem said answer = answer ≡ refusal_verdict said RejectDuplicateReference Nothing
AnswersCheck NoIdentifier op modem said answer =
    answer ≡ refusal_verdict said RejectRequiredParameterNotPresent (Errored None (identifier_subtype said.kind))
AnswersCheck UnknownFlow op modem said answer = answer ≡ refusal_verdict said RejectFlowNotFound Nothing
AnswersCheck NotOwner op modem said answer = answer ≡ refusal_verdict said RejectNotOwner Nothing
AnswersCheck FlowWaits op modem said answer = answer ≡ refusal_verdict said RejectTemporary Nothing
AnswersCheck WrongSetType op modem said answer =
    (encoding : FlowFields) × (said.encodings ≡ encoding ∷ [])
    × (answer ≡ refusal_verdict said (set_type_code encoding.set_type) (naming said encoding set_type_subtype))
AnswersCheck NoParameterSet op modem said answer =
    (encoding : FlowFields) × (refusal : Refusal) × IsFirst (GivesNoSet op.consts) said.encodings encoding
    × EncodingIsRefused op.consts encoding refusal
    × (answer ≡ refusal_verdict said refusal.code (naming said encoding refusal.subtype))
AnswersCheck ActiveNotWithin op modem said answer =
    (encoding : FlowFields) × (active : ParamFields) × (admitted : ParamFields) × (subtype : ℕ)
    × Contains said.encodings encoding
    × IsToBeActive op said (Some active) × IsToBeAdmitted op said (Some admitted)
    × (first_failing active admitted ≡ Some subtype)
    × (answer ≡ refusal_verdict said RejectInvalidForContext (naming said encoding subtype))
AnswersCheck AdmittedNotWithin op modem said answer =
    (encoding : FlowFields) × (flow : Flow) × (admitted : ParamFields) × (provisioned : ParamFields) × (subtype : ℕ)
    × Contains said.encodings encoding
    × IsAbout op said (Some flow) × IsToBeAdmitted op said (Some admitted)
    × (flow.sets.provisioned ≡ Some provisioned)
    × (first_failing admitted provisioned ≡ Some subtype)
    × (answer ≡ refusal_verdict said RejectAuthorizationFailure (naming said encoding subtype))
AnswersCheck FlowsFull op modem said answer = answer ≡ refusal_verdict said RejectTemporary Nothing
AnswersCheck NoSfidFree op modem said answer = answer ≡ refusal_verdict said RejectTemporary Nothing
AnswersCheck NoSidFree op modem said answer = answer ≡ refusal_verdict said RejectTemporary Nothing
AnswersCheck ElementsOver op modem said answer = answer ≡ refusal_verdict said RejectTemporary Nothing
AnswersCheck MinislotsOver op modem said answer = answer ≡ refusal_verdict said RejectTemporary Nothing
AnswersCheck Accepted op modem said answer = IsAccepted said.kind op modem said answer
