-- Whether each check of the table holds, as a test (implementation-specific; for inner functions).
use Rattle.std.specs.Prelude.{◌==◌, ◌&&◌, ◌||◌, not, ℕ, Bool, true, false, List, [], ◌∷◌, length, nat_le, nat_lt, Option, Some, None, Result, Ok, Err, is_some, is_none}
use Rattle.std.specs.List.{list_any}
use Rattle.tlv24.specs.declared.fields.FlowFields.{FlowFields}
use Rattle.tlv24.specs.declared.set_type.SetType.TheVariants.{Null, Admitted, AdmittedAndActive}
use Rattle.dsx_messages.specs.declared.modem.Modem.{Modem}
use Rattle.dsx_messages.specs.declared.kind.Kind.{Kind}
use Rattle.dsx_messages.specs.declared.kind.Kind.TheVariants.{Dsa, Dsc, Dsd}
use Rattle.admission.specs.Free.{least_free_of}
use Rattle.param_sets.specs.Within.{first_failing}
use Rattle.param_sets.specs.declared.param_set.ParamFields.{ParamFields}
use Rattle.param_sets.specs.declared.refusal.Refusal.{Refusal}
use Rattle.plant.specs.declared.consts.ConstsFields.{ConstsFields}
use Rattle.plant.specs.Row.{same_modem}
use Rattle.flow_table.specs.declared.flow.Flow.{Flow}
use Rattle.flow_table.specs.Table.{sfids_of, sids_of, sid_if}
use Rattle.operator_model.specs.declared.share.NextShare.{NextShare}
use Rattle.operator_model.specs.State.{Operator}
use Rattle.operator_model.specs.Asked.{is_same, has_set_type, id_number, is_unclassed, stand_together}
use Rattle.trace_report.specs.table.Said.{Said, set_asked}
use Rattle.trace_report.specs.table.Holding.{would_commit}
use Rattle.trace_report.specs.declared.table.check.Check.{Check}
use Rattle.trace_report.specs.declared.table.check.Check.TheVariants as checks
use Rattle.trace_report.specs.checks.Asking.{is_addition, is_deletion, subjects_of, encoding_sets}
use Rattle.trace_report.specs.declared.checks.asking.Use.TheVariants.{Admit, Activate}

-- ---- the encodings

-- the list has no items
abbrev pub is_empty : {X : Type 0} → List X → Bool
is_empty [] = true
is_empty (x ∷ xs) = false

-- two encodings have different identifiers, by the kind of their request
abbrev pub differs_from : Kind → FlowFields → FlowFields → Bool
differs_from kind a b = not (is_same (id_number kind a) (id_number kind b))

-- one of the encodings has another identifier than this one
abbrev pub is_alone : Kind → List FlowFields → FlowFields → Bool
is_alone kind encodings a = list_any (differs_from kind a) encodings

-- two of the encodings have different identifiers
abbrev pub do_differ : Kind → List FlowFields → Bool
do_differ kind encodings = list_any (is_alone kind encodings) encodings

-- the encoding has no identifier: no reference in an addition, no SFID in a change
abbrev pub has_no_identifier : Kind → FlowFields → Bool
has_no_identifier kind encoding = is_none (id_number kind encoding)

-- the null set type is taken in a change alone
abbrev pub is_taken : Kind → FlowFields → Bool
is_taken Dsa encoding = has_set_type Admitted encoding || has_set_type AdmittedAndActive encoding
is_taken Dsc encoding =
    has_set_type Admitted encoding || (has_set_type AdmittedAndActive encoding || has_set_type Null encoding)
is_taken Dsd encoding = has_set_type Admitted encoding || has_set_type AdmittedAndActive encoding

-- there is one encoding, and its set type is absent or is not taken of one encoding alone
abbrev pub is_wrong_alone : Kind → List FlowFields → Bool
is_wrong_alone kind [] = false
is_wrong_alone kind (a ∷ []) = not (is_taken kind a)
is_wrong_alone kind (a ∷ b ∷ more) = false

-- the parameter set of an encoding is refused
abbrev pub is_err_of : Option (Result ParamFields Refusal) → Bool
is_err_of None = false
is_err_of (Some (Ok set)) = false
is_err_of (Some (Err refusal)) = true

-- the encoding is to give a parameter set, and is refused; one of the null set type gives none
abbrev pub gives_none : ConstsFields → FlowFields → Bool
gives_none consts encoding = not (has_set_type Null encoding) && is_err_of (set_asked consts encoding)

-- ---- the flow

-- an SFID that no flow has
abbrev pub is_unknown : List ℕ → Option ℕ → Bool
is_unknown used None = false
is_unknown used (Some sfid) = not (list_any (λ n. n == sfid) used)

-- the request names an SFID that no flow has: an addition names none
abbrev pub names_unknown : List ℕ → Kind → List FlowFields → Option ℕ → Bool
names_unknown used Dsa encodings fixed = false
names_unknown used Dsc encodings fixed = list_any (λ encoding. is_unknown used encoding.sfid) encodings
names_unknown used Dsd encodings fixed = is_unknown used fixed

-- the flow is of another modem; where there is no flow, it is not
abbrev pub is_of_another : Modem → Option Flow → Bool
is_of_another modem None = false
is_of_another modem (Some flow) = not (same_modem flow.modem modem)

-- the flow waits for an acknowledgement
abbrev pub flow_waits : Option Flow → Bool
flow_waits None = false
flow_waits (Some flow) = is_some flow.pending

-- ---- the sets

-- the one set asks for more than the other: the null set is within every set, and none is within it
abbrev pub is_outside : Option ParamFields → Option ParamFields → Bool
is_outside None b = false
is_outside (Some a) None = false
is_outside (Some a) (Some b) = is_some (first_failing a b)

-- the provisioned set of a flow; none where there is no flow
abbrev pub provisioned_of : Option Flow → Option ParamFields
provisioned_of None = None
provisioned_of (Some flow) = flow.sets.provisioned

-- the active set is not within one of these admitted sets
abbrev pub is_outside_one : List (Option ParamFields) → Option ParamFields → Bool
is_outside_one admitted active = list_any (is_outside active) admitted

-- one of these admitted sets is not within the flow's provisioned set
abbrev pub one_exceeds : List (Option ParamFields) → Option Flow → Bool
one_exceeds admitted flow = list_any (λ set. is_outside set (provisioned_of flow)) admitted

-- ---- the room

-- the flow has no SID yet, or there is no flow
abbrev pub has_no_sid : Option Flow → Bool
has_no_sid flow = is_none (sid_if flow)

-- so many minislots are more than the budget that waits for its frame, if one waits
abbrev pub is_over_next : Option NextShare → ℕ → Bool
is_over_next None n = false
is_over_next (Some next) n = nat_lt next.share.budget n

-- so many minislots are more than the budget in force, or than the one that waits for its frame
abbrev pub is_over_budget : Operator → ℕ → Bool
is_over_budget op n = nat_lt op.state.share.budget n || is_over_next op.state.next n

-- one of these sets would have all flows commit more elements than the operator's quota
abbrev pub elements_over : Operator → List (Option ParamFields) → Option Flow → Bool
elements_over op sets flow = list_any (λ set. nat_lt op.row.elements (would_commit (λ need. need.elements) op flow set)) sets

-- one of these sets would have all flows commit more minislots than the budget in force, or than the one that waits
abbrev pub minislots_over : Operator → List (Option ParamFields) → Option Flow → Bool
minislots_over op sets flow = list_any (λ set. is_over_budget op (would_commit (λ need. need.minislots) op flow set)) sets

-- ---- each check

-- whether each check of a request holds, by itself
abbrev pub does_hold : Check → Operator → Modem → Said → Bool
does_hold checks.UnknownClass op modem said = list_any (is_unclassed op.consts.classes) said.encodings
does_hold checks.NoEncoding op modem said = not (is_deletion said.kind) && is_empty said.encodings
does_hold checks.IdentifiersDiffer op modem said = do_differ said.kind said.encodings
does_hold checks.NotTogether op modem said = nat_lt 1 (length said.encodings) && not (stand_together said.encodings)
does_hold checks.NoIdentifier op modem said = list_any (has_no_identifier said.kind) said.encodings
does_hold checks.UnknownFlow op modem said = names_unknown (sfids_of op.state.flows) said.kind said.encodings said.sfid
does_hold checks.NotOwner op modem said = list_any (is_of_another modem) (subjects_of op said)
does_hold checks.FlowWaits op modem said = list_any flow_waits (subjects_of op said)
does_hold checks.WrongSetType op modem said = is_wrong_alone said.kind said.encodings
does_hold checks.NoParameterSet op modem said = list_any (gives_none op.consts) said.encodings
does_hold checks.ActiveNotWithin op modem said = list_any (is_outside_one (encoding_sets Admit op said)) (encoding_sets Activate op said)
does_hold checks.AdmittedNotWithin op modem said = list_any (one_exceeds (encoding_sets Admit op said)) (subjects_of op said)
does_hold checks.FlowsFull op modem said = is_addition said.kind && nat_le op.row.flows (length op.state.flows)
does_hold checks.NoSfidFree op modem said = is_addition said.kind && is_none (least_free_of op.row.sfids (sfids_of op.state.flows))
does_hold checks.NoSidFree op modem said =
    is_none (least_free_of op.row.sids (sids_of op.state.flows)) && (list_any has_no_sid (subjects_of op said) && list_any is_some (encoding_sets Admit op said))
does_hold checks.ElementsOver op modem said = not (is_deletion said.kind) && list_any (elements_over op (encoding_sets Admit op said)) (subjects_of op said)
does_hold checks.MinislotsOver op modem said = not (is_deletion said.kind) && list_any (minislots_over op (encoding_sets Admit op said)) (subjects_of op said)
does_hold checks.Accepted op modem said = true

-- the same, by the operator, the modem and the request
abbrev pub test_of : Operator → Modem → Said → Check → Bool
test_of op modem said check = does_hold check op modem said
