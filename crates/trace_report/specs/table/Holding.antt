-- When each check of the table holds, by itself (CM-SP-MULPIv3.1, 11.2.2 and 11.2.3; which checks there are is implementation-specific).
use Rattle.std.specs.Prelude.{◌≡◌, ◌≢◌, ℕ, ◌+◌, ◌-◌, ◌<◌, ◌≤◌, max, List, [], ◌∷◌, length, map, sum_by, All, Any, Contains, Option, Some, None, IsSome, ◌⊎◌}
use Rattle.tlv24.specs.SetType.{set_type_number}
use Rattle.tlv24.specs.declared.fields.FlowFields.{FlowFields}
use Rattle.tlv24.specs.declared.set_type.SetType.TheVariants.{Null, Admitted, Active, AdmittedAndActive}
use Rattle.dsx_messages.specs.declared.modem.Modem.{Modem}
use Rattle.dsx_messages.specs.declared.kind.Kind.{Kind}
use Rattle.dsx_messages.specs.declared.kind.Kind.TheVariants.{Dsa, Dsc, Dsd}
use Rattle.admission.specs.Free.{Numbers, IsFree}
use Rattle.admission.specs.declared.budget.Budget.{Budget}
use Rattle.param_sets.specs.Need.{need_if}
use Rattle.param_sets.specs.Within.{IsWithin}
use Rattle.param_sets.specs.declared.param_set.ParamFields.{ParamFields}
use Rattle.param_sets.specs.declared.refusal.Refusal.{Refusal}
use Rattle.plant.specs.declared.consts.ConstsFields.{ConstsFields}
use Rattle.plant.specs.declared.class_table.Class.{Class}
use Rattle.flow_table.specs.declared.flow.Flow.{Flow}
use Rattle.flow_table.specs.Flow.{committed_of}
use Rattle.flow_table.specs.Table.{sfids_of, sids_of, sid_if}
use Rattle.operator_model.specs.declared.share.NextShare.{NextShare}
use Rattle.operator_model.specs.State.{Operator}
use Rattle.trace_report.specs.declared.table.check.Check.{Check}
use Rattle.trace_report.specs.declared.table.check.Check.TheVariants.{UnknownClass, NoEncoding, IdentifiersDiffer, NotTogether, NoIdentifier, UnknownFlow, NotOwner, FlowWaits, WrongSetType, NoParameterSet, ActiveNotWithin, AdmittedNotWithin, FlowsFull, NoSfidFree, NoSidFree, ElementsOver, MinislotsOver, Accepted}
use Rattle.trace_report.specs.table.Said.{Said, identifier, NamesFlow, IsOfFlow, IsAbout, EncodingIsRefused, IsSetType, IsToBeAdmitted, IsToBeActive}

-- an encoding names a class, and no class of the plant has that name
abbrev pub NamesUnknownClass : List Class → FlowFields → Type 0
NamesUnknownClass classes encoding =
    (name : List ℕ) × (encoding.class_name ≡ Some name) × All (λ class. class.name ≢ name) classes

-- the set types of two encodings, one for the admitted set and one for the active set
abbrev pub AreAdmittedAndActive : List (Option ℕ) → Type 0
AreAdmittedAndActive set_types =
    (set_types ≡ Some (set_type_number Admitted) ∷ Some (set_type_number Active) ∷ [])
    ⊎ (set_types ≡ Some (set_type_number Active) ∷ Some (set_type_number Admitted) ∷ [])

-- a set type that one encoding may have: for the admitted set, for both sets, and in a change null
abbrev pub AcceptsSetType : Kind → Option ℕ → Type 0
AcceptsSetType kind set_type =
    IsSetType Admitted set_type ⊎ (IsSetType AdmittedAndActive set_type ⊎ ((kind ≡ Dsc) × IsSetType Null set_type))

-- an encoding that is to give a set, and is refused
abbrev pub GivesNoSet : ConstsFields → FlowFields → Type 0
GivesNoSet consts encoding = (¬ IsSetType Null encoding.set_type) × (refusal : Refusal) × EncodingIsRefused consts encoding refusal

-- no number of the range is free
abbrev pub IsUsedUp : Numbers → List ℕ → Type 0
IsUsedUp range used = (n : ℕ) → ¬ IsFree range used n

-- what all flows would have committed of minislots or of elements, with this set as what waits for the flow: what
-- they have now, in place of what that flow has the greater of what its admitted set needs and of what this one needs
abbrev pub would_commit : (Budget → ℕ) → Operator → Option Flow → Option ParamFields → ℕ
would_commit part op None set =
    sum_by (λ entry. part (committed_of op.consts.units entry.1)) op.state.flows + part (need_if op.consts.units set)
would_commit part op (Some flow) set =
    sum_by (λ entry. part (committed_of op.consts.units entry.1)) op.state.flows
    - part (committed_of op.consts.units flow)
    + max (part (need_if op.consts.units flow.sets.admitted)) (part (need_if op.consts.units set))

-- this is what an addition or a change would have all flows commit
abbrev pub WouldCommit : (Budget → ℕ) → Operator → Said → ℕ → Type 0
WouldCommit part op said n =
    (flow : Option Flow) × (set : Option ParamFields) × IsAbout op said flow × IsToBeAdmitted op said set
    × (n ≡ would_commit part op flow set)

-- more minislots than the budget in force, or than the one that waits for its frame
abbrev pub IsOverBudget : Operator → ℕ → Type 0
IsOverBudget op n =
    (op.state.share.budget < n) ⊎ ((next : NextShare) × (op.state.next ≡ Some next) × (next.share.budget < n))

-- when each check of the table holds, by itself, whatever the others say
abbrev pub CheckApplies : Check → Operator → Modem → Said → Type 0
CheckApplies UnknownClass op modem said = Any (NamesUnknownClass op.consts.classes) said.encodings
CheckApplies NoEncoding op modem said = (said.kind ≢ Dsd) × (said.encodings ≡ [])
CheckApplies IdentifiersDiffer op modem said =
    (a : FlowFields) × (b : FlowFields) × Contains said.encodings a × Contains said.encodings b
    × (identifier said.kind a ≢ identifier said.kind b)
CheckApplies NotTogether op modem said =
    (1 < length said.encodings) × (¬ AreAdmittedAndActive (map (λ encoding. encoding.set_type) said.encodings))
CheckApplies NoIdentifier op modem said = Any (λ encoding. identifier said.kind encoding ≡ None) said.encodings
CheckApplies UnknownFlow op modem said =
    (sfid : ℕ) × NamesFlow said.kind said.encodings said.sfid sfid × (¬ Contains (sfids_of op.state.flows) sfid)
CheckApplies NotOwner op modem said = (sfid : ℕ) × (flow : Flow) × IsOfFlow op said sfid flow × (flow.modem ≢ modem)
CheckApplies FlowWaits op modem said = (sfid : ℕ) × (flow : Flow) × IsOfFlow op said sfid flow × IsSome flow.pending
CheckApplies WrongSetType op modem said =
    (encoding : FlowFields) × (said.encodings ≡ encoding ∷ []) × (¬ AcceptsSetType said.kind encoding.set_type)
CheckApplies NoParameterSet op modem said = Any (GivesNoSet op.consts) said.encodings
CheckApplies ActiveNotWithin op modem said =
    (active : ParamFields) × (admitted : ParamFields) × IsToBeActive op said (Some active)
    × IsToBeAdmitted op said (Some admitted)
    × (¬ IsWithin active admitted)
CheckApplies AdmittedNotWithin op modem said =
    (flow : Flow) × (admitted : ParamFields) × (provisioned : ParamFields) × IsAbout op said (Some flow)
    × IsToBeAdmitted op said (Some admitted)
    × (flow.sets.provisioned ≡ Some provisioned) × (¬ IsWithin admitted provisioned)
CheckApplies FlowsFull op modem said = (said.kind ≡ Dsa) × (op.row.flows ≤ length op.state.flows)
CheckApplies NoSfidFree op modem said = (said.kind ≡ Dsa) × IsUsedUp op.row.sfids (sfids_of op.state.flows)
CheckApplies NoSidFree op modem said =
    (flow : Option Flow) × (set : ParamFields) × IsAbout op said flow × IsToBeAdmitted op said (Some set)
    × (sid_if flow ≡ None)
    × IsUsedUp op.row.sids (sids_of op.state.flows)
CheckApplies ElementsOver op modem said =
    (n : ℕ) × (said.kind ≢ Dsd) × WouldCommit (λ need. need.elements) op said n × (op.row.elements < n)
CheckApplies MinislotsOver op modem said =
    (n : ℕ) × (said.kind ≢ Dsd) × WouldCommit (λ need. need.minislots) op said n × IsOverBudget op n
CheckApplies Accepted op modem said = Unit {0}
