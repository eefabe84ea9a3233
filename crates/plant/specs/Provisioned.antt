-- Which flows an operator is opened with (implementation-specific; set types: CM-SP-MULPIv3.1, Annex C, subtype 6).
use Rattle.std.specs.Prelude.{ℕ, List, [], ◌∷◌, map, filter_map, Option, Some, None, is_some, Result, Ok, Err, if◌then◌else◌}
use Rattle.std.specs.Ordering.{nat_cmp}
use Rattle.std.specs.BTreeMap.{insert_entry}
use Rattle.tlv24.specs.declared.fields.FlowFields.{FlowFields}
use Rattle.tlv24.specs.declared.fault.FlowFault.{FlowFault}
use Rattle.tlv24.specs.Flow.{flow_of}
use Rattle.tlv24.specs.SetType.{set_type_of}
use Rattle.tlv24.specs.declared.set_type.SetType.{SetType}
use Rattle.tlv24.specs.declared.set_type.SetType.TheVariants as set_types
use Rattle.dsx_messages.specs.declared.modem.Modem.{Modem}
use Rattle.admission.specs.Free.{least_free_of}
use Rattle.param_sets.specs.Units.{UnitSizes}
use Rattle.param_sets.specs.Reading.{parameter_set_of}
use Rattle.param_sets.specs.declared.param_set.ParamFields.{ParamFields}
use Rattle.param_sets.specs.declared.sets.SetsFields.{SetsFields}
use Rattle.param_sets.specs.declared.refusal.Refusal.{Refusal}
use Rattle.plant.specs.declared.consts.ConstsFields.{ConstsFields}
use Rattle.plant.specs.declared.provision.Provision.{Provision}
use Rattle.plant.specs.declared.operator_row.RowFields.{RowFields}
use Rattle.plant.specs.Classes.{asked_of}

-- ---- the sets of a provisioned flow

-- a parameter set is provisioned, provisioned and admitted, or all three; no other set type is provisioned
abbrev pub sets_of_type : Option SetType → ParamFields → Option SetsFields
sets_of_type (Some set_types.Provisioned) set = Some (record { provisioned = Some set; admitted = None; active = None })
sets_of_type (Some set_types.ProvisionedAndAdmitted) set = Some (record { provisioned = Some set; admitted = Some set; active = None })
sets_of_type (Some set_types.AllSets) set = Some (record { provisioned = Some set; admitted = Some set; active = Some set })
sets_of_type other set = None

-- the sets of a flow of this set type and parameter set; none where it states no set type or its set is refused
abbrev pub sets_of_set : Option ℕ → Result ParamFields Refusal → Option SetsFields
sets_of_set (Some n) (Ok set) = sets_of_type (set_type_of n) set
sets_of_set (Some n) (Err refusal) = None
sets_of_set None set = None

-- the sets of a flow that asks for this
abbrev pub sets_of_asked : UnitSizes → Option ℕ → FlowFields → Option SetsFields
sets_of_asked units set_type asked = sets_of_set set_type (parameter_set_of asked units)

-- the sets of a flow that states this, over its class
abbrev pub sets_over_class : UnitSizes → Option ℕ → Option FlowFields → Option SetsFields
sets_over_class units set_type None = None
sets_over_class units set_type (Some asked) = sets_of_asked units set_type asked

-- the sets of a flow that is provisioned with what its encoding states; none where the encoding is invalid
abbrev pub sets_of_flow : ConstsFields → Result FlowFields FlowFault → Option SetsFields
sets_of_flow consts (Err fault) = None
sets_of_flow consts (Ok stated) = sets_over_class consts.units stated.set_type (asked_of consts.classes stated)

-- the sets that a flow is opened with that is provisioned with these bytes; none where the bytes give it none
abbrev pub sets_of_encoding : ConstsFields → List ℕ → Option SetsFields
sets_of_encoding consts bytes = sets_of_flow consts (flow_of bytes)

-- ---- their identifiers

-- a flow as it is opened, except its frame numbers
pub record OpenedFlow : Type 0 where
  pub modem : Modem
  pub sid : Option ℕ
  pub sets : SetsFields

-- the SFIDs of flows as they are opened
abbrev pub opened_sfids : List (ℕ × OpenedFlow) → List ℕ
opened_sfids flows = map (λ entry. entry.0) flows

-- the SIDs of flows as they are opened
abbrev pub opened_sids : List (ℕ × OpenedFlow) → List ℕ
opened_sids flows = filter_map (λ entry. entry.1.sid) flows

-- a flow has a SID where a set is admitted: the least free one
abbrev pub opened_sid : RowFields → List (ℕ × OpenedFlow) → SetsFields → Option ℕ
opened_sid row flows sets = if is_some sets.admitted then least_free_of row.sids (opened_sids flows) else None

-- one flow more, under this SFID
abbrev pub and_under : RowFields → List (ℕ × OpenedFlow) → Modem → SetsFields → Option ℕ → List (ℕ × OpenedFlow)
and_under row flows modem sets None = flows
and_under row flows modem sets (Some sfid) = insert_entry nat_cmp flows sfid (record { modem = modem; sid = opened_sid row flows sets; sets = sets })

-- one flow more, under the least free SFID
abbrev pub and_opened : RowFields → List (ℕ × OpenedFlow) → Modem → Option SetsFields → List (ℕ × OpenedFlow)
and_opened row flows modem None = flows
and_opened row flows modem (Some sets) = and_under row flows modem sets (least_free_of row.sfids (opened_sfids flows))

-- these provisioned flows next to those that are present, in the file's order
abbrev pub all_opened : ConstsFields → RowFields → List (ℕ × OpenedFlow) → List Provision → List (ℕ × OpenedFlow)
all_opened consts row flows [] = flows
all_opened consts row flows (p ∷ provisions) = all_opened consts row (and_opened row flows p.modem (sets_of_encoding consts p.encoding)) provisions

-- the flows that an operator is opened with, by SFID
abbrev pub opened_flows : ConstsFields → RowFields → List (ℕ × OpenedFlow)
opened_flows consts row = all_opened consts row [] row.provisions
