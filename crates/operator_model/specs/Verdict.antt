-- What becomes of a request: the rest of the table of checks, those that ask for room (CM-SP-MULPIv3.1, 11.2.2 and 11.2.3;
-- which case gets which code is implementation-specific).
use Rattle.std.specs.Prelude.{◌&&◌, ℕ, Bool, true, false, List, length, min, nat_le, nat_lt, Option, Some, None, Result, Ok, Err, is_some, is_none, if◌then◌else◌}
use Rattle.tlv24.specs.declared.tlv.TlvFault.{TlvFault}
use Rattle.tlv24.specs.declared.tlv.TlvFault.TheVariants as tlv_faults
use Rattle.dsx_messages.specs.declared.modem.Modem.{Modem}
use Rattle.dsx_messages.specs.declared.kind.Kind.{Kind}
use Rattle.dsx_messages.specs.declared.kind.Kind.TheVariants.{Dsa, Dsc, Dsd}
use Rattle.dsx_messages.specs.declared.code.Code.TheVariants as codes
use Rattle.dsx_messages.specs.declared.reply.FlowId.{FlowId}
use Rattle.dsx_messages.specs.declared.reply.Detail.TheVariants.{Nothing, Given, Errored}
use Rattle.dsx_messages.specs.declared.reply.ReplyFields.{ReplyFields}
use Rattle.dsx_messages.specs.declared.message.Request.{Request}
use Rattle.dsx_messages.specs.declared.message.Request.TheVariants as requests
use Rattle.admission.specs.Free.{least_free_of}
use Rattle.admission.specs.declared.budget.Budget.{Budget}
use Rattle.param_sets.specs.Units.{UnitSizes}
use Rattle.param_sets.specs.declared.sets.SetsFields.{SetsFields}
use Rattle.flow_table.specs.declared.flow.Flow.{Flow}
use Rattle.flow_table.specs.Table.{sfids_of, sids_of, flow_at, with_flow, committed_minislots, committed_elements}
use Rattle.operator_model.specs.declared.share.NextShare.{NextShare}
use Rattle.operator_model.specs.declared.verdict.Addition.{Addition}
use Rattle.operator_model.specs.declared.verdict.Change.{Change}
use Rattle.operator_model.specs.declared.verdict.Verdict.{Verdict}
use Rattle.operator_model.specs.declared.verdict.Verdict.TheVariants.{Refused, Put, Deleted}
use Rattle.operator_model.specs.State.{Operator}
use Rattle.operator_model.specs.Asked.{transaction, refusal, free_flow, addition_of, change_of}

-- ---- what may be committed

-- the minislots that may be committed: while another budget waits for its frame, the smaller of the two
abbrev pub minislots_allowed : ℕ → Option NextShare → ℕ
minislots_allowed budget None = budget
minislots_allowed budget (Some next) = min budget next.share.budget

-- what all flows may have committed: the minislots that are allowed, and the operator's quota of elements
abbrev pub limit_of : Operator → Budget
limit_of op = record { minislots = minislots_allowed op.state.share.budget op.state.next; elements = op.row.elements }

-- there is no room for what is asked
abbrev pub no_room : Kind → ℕ → Verdict
no_room kind tid = Refused (refusal kind tid codes.RejectTemporary)

-- checks 20 and 21: with these flows more elements would be committed than the quota has, or more minislots than the budget
abbrev pub within_limit : Kind → ℕ → UnitSizes → Budget → List (ℕ × Flow) → Verdict → Verdict
within_limit kind tid units limit flows verdict =
    if nat_lt limit.elements (committed_elements units flows) then no_room kind tid else
    if nat_lt limit.minislots (committed_minislots units flows) then no_room kind tid else
    verdict

-- checks 20 and 21: the flow is put under the SFID, unless more would be committed with it than may be
abbrev pub put_within_limit : Operator → Kind → ℕ → ℕ → Flow → ReplyFields → Verdict
put_within_limit op kind tid sfid flow reply =
    within_limit kind tid op.consts.units (limit_of op) (with_flow sfid flow op.state.flows)
    (Put sfid flow reply)

-- ---- an addition: checks 17 to 21

-- a flow that was added in this frame, and waits
abbrev pub new_flow : Modem → ℕ → SetsFields → ℕ → Flow
new_flow modem frame sets sid = record {
  modem = modem;
  sid = Some sid;
  sets = record { provisioned = None; admitted = None; active = None };
  pending = Some (record { sets = sets; sid_is_new = true });
  start = frame;
  backlog = 0;
  since = frame;
}

-- the DSA-RSP of a flow that is added: its reference, its SFID and its SID
abbrev pub added_reply : ℕ → ℕ → ℕ → ℕ → ReplyFields
added_reply tid reference sfid sid = record { kind = Dsa; tid = tid; code = codes.Okay; detail = Given (Some reference) sfid (Some sid) }

-- no SFID is free; no SID is free; too much would be committed; else the flow is added
abbrev pub added_under : Operator → Modem → ℕ → Addition → Option ℕ → Option ℕ → Verdict
added_under op modem tid addition None sid = no_room Dsa tid
added_under op modem tid addition (Some sfid) None = no_room Dsa tid
added_under op modem tid addition (Some sfid) (Some sid) =
    put_within_limit op Dsa tid sfid (new_flow modem op.state.frame addition.sets sid) (added_reply tid addition.reference sfid sid)

-- checks 17 to 21: as many flows are as the row allows; else the flow gets the least free identifiers
unfoldable pub addition_within_limit : Operator → Modem → ℕ → Addition → Verdict
addition_within_limit op modem tid addition =
    if nat_le op.row.flows (length op.state.flows) then no_room Dsa tid else
    added_under op modem tid addition (least_free_of op.row.sfids (sfids_of op.state.flows)) (least_free_of op.row.sids (sids_of op.state.flows))

-- ---- a change: checks 19 to 21

-- a flow of which a change waits
abbrev pub changed_flow : Change → Option ℕ → Bool → Flow
changed_flow change sid sid_is_new = record change.flow { sid = sid; pending = Some (record { sets = change.sets; sid_is_new = sid_is_new }) }

-- the SID is reported where a set is admitted
abbrev pub changed_reply : ℕ → ℕ → SetsFields → Option ℕ → ReplyFields
changed_reply tid sfid sets sid = record { kind = Dsc; tid = tid; code = codes.Okay; detail = Given None sfid (if is_some sets.admitted then sid else None) }

-- the change of a flow with this SID, unless more would be committed than may be
abbrev pub changed_with : Operator → ℕ → Change → Option ℕ → Bool → Verdict
changed_with op tid change sid sid_is_new =
    put_within_limit op Dsc tid change.sfid (changed_flow change sid sid_is_new) (changed_reply tid change.sfid change.sets sid)

-- no SID is free; else it is the flow's
abbrev pub changed_with_new : Operator → ℕ → Change → Option ℕ → Verdict
changed_with_new op tid change None = no_room Dsc tid
changed_with_new op tid change (Some sid) = changed_with op tid change (Some sid) true

-- a set is to be admitted, and the flow has no SID yet
abbrev pub wants_sid : Change → Bool
wants_sid change = is_some change.sets.admitted && is_none change.flow.sid

-- a change whose sets are nested, by the checks that need room: no SID is free (19), or too much would be committed (20, 21)
unfoldable pub change_within_limit : Operator → ℕ → Change → Verdict
change_within_limit op tid change =
    if wants_sid change then changed_with_new op tid change (least_free_of op.row.sids (sids_of op.state.flows)) else
    changed_with op tid change change.flow.sid false

-- ---- requests

-- the verdict of an addition: the refusal of the checks before, or that of the checks that need room
abbrev pub addition_verdict : Operator → Modem → ℕ → Result Addition ReplyFields → Verdict
addition_verdict op modem tid (Err reply) = Refused reply
addition_verdict op modem tid (Ok addition) = addition_within_limit op modem tid addition

-- the verdict of a change: the refusal of the checks before, or that of the checks that need room
abbrev pub change_verdict : Operator → ℕ → Result Change ReplyFields → Verdict
change_verdict op tid (Err reply) = Refused reply
change_verdict op tid (Ok change) = change_within_limit op tid change

-- a deletion: checks 10 to 12
abbrev pub deletion_verdict : ℕ → ℕ → Result Flow ReplyFields → Verdict
deletion_verdict tid sfid (Err reply) = Refused reply
deletion_verdict tid sfid (Ok flow) = Deleted sfid (record { kind = Dsd; tid = tid; code = codes.Okay; detail = Nothing })

-- what becomes of a request whose transaction is new: it is refused, or a flow is added, changed or deleted
unfoldable pub verdict : Operator → Modem → Request → Verdict
verdict op modem (requests.Dsa tid encodings) = addition_verdict op modem tid (addition_of op.consts (transaction modem Dsa tid) encodings)
verdict op modem (requests.Dsc tid encodings) = change_verdict op tid (change_of op.consts op.state.flows (transaction modem Dsc tid) encodings)
verdict op modem (requests.Dsd tid sfid) = deletion_verdict tid sfid (free_flow (transaction modem Dsd tid) (flow_at sfid op.state.flows))

-- ---- check 4: what could not be read

-- check 4: the refusal of a request whose list of TLVs is invalid, by its first fault
abbrev pub encoding_refusal : Kind → ℕ → Option FlowId → TlvFault → ReplyFields
encoding_refusal kind tid id (tlv_faults.Cut place) = refusal kind tid codes.RejectOther
encoding_refusal kind tid id (tlv_faults.WrongLength subtype) = record { kind = kind; tid = tid; code = codes.RejectUnrecognizedSetting; detail = Errored id subtype }
encoding_refusal kind tid id (tlv_faults.Twice subtype) = record { kind = kind; tid = tid; code = codes.RejectInvalidForContext; detail = Errored id subtype }
encoding_refusal kind tid id (tlv_faults.Range subtype) = record { kind = kind; tid = tid; code = codes.RejectInvalidForContext; detail = Errored id subtype }
encoding_refusal kind tid id tlv_faults.NoMemory = refusal kind tid codes.RejectOther
