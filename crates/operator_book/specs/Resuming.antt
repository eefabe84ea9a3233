-- When a machine can go on from a state under a row, and which fault is reported where it cannot (implementation-specific).
use Rattle.std.specs.Prelude.{◌≡◌, ◌==◌, ◌&&◌, ◌||◌, ◌+◌, ℕ, Bool, true, false, not, nat_le, nat_lt, is_some}
use Rattle.std.specs.Prelude.{List, [], ◌∷◌, ◌++◌, length, All, Option, Some, None, IfSome, find, if◌then◌else◌}
use Rattle.std.specs.List.{list_any}
use Rattle.std.specs.Option.{option_or}
use Rattle.admission.specs.Free.{Numbers}
use Rattle.dsx_messages.specs.declared.kind.Kind.{Kind}
use Rattle.dsx_messages.specs.declared.kind.Kind.TheVariants.{Dsa, Dsc, Dsd}
use Rattle.dsx_messages.specs.declared.modem.Modem.{Modem}
use Rattle.param_sets.specs.Scheduling.{scheduling_number}
use Rattle.param_sets.specs.declared.param_set.ParamFields.{ParamFields}
use Rattle.param_sets.specs.declared.sets.SetsFields.{SetsFields}
use Rattle.param_sets.specs.Sets.{AreNested}
use Rattle.plant.specs.declared.consts.ConstsFields.{ConstsFields}
use Rattle.plant.specs.declared.operator_row.RowFields.{RowFields}
use Rattle.plant.specs.Row.{is_listed}
use Rattle.transactions.specs.declared.entry.KeptEntry.{KeptEntry}
use Rattle.transactions.specs.Entry.{is_waiting, is_of}
use Rattle.transactions.specs.Keeping.{OneEach, HasTicks, IsHeldUnsent}
use Rattle.flow_table.specs.declared.flow.Flow.{Flow}
use Rattle.flow_table.specs.declared.flow.Pending.{Pending}
use Rattle.flow_table.specs.Flow.{asks_for_grants}
use Rattle.flow_table.specs.Table.{flow_at, flow_with, with_flow, committed_minislots, committed_elements}
use Rattle.operator_model.specs.declared.share.Share.{Share}
use Rattle.operator_model.specs.declared.share.NextShare.{NextShare}
use Rattle.operator_model.specs.State.{OperatorState, operator}
use Rattle.operator_model.specs.Sound.{AreOfTheirKinds, IsSound}
use Rattle.operator_book.specs.declared.state_fault.StateFault.{StateFault}
use Rattle.operator_book.specs.declared.state_fault.StateFault.TheVariants as faults

-- ---- when a machine can go on

-- the modem is one of the row's
abbrev pub IsListedIn : RowFields → Modem → Type 0
IsListedIn row modem = is_listed modem row.modems ≡ true

-- when a machine can go on from a state under a row: the state is sound under it, the responses are as the cache keeps them, and all is of
-- modems that the row lists
pub record IsStateUnder (consts : ConstsFields) (row : RowFields) (state : OperatorState) : Type 0 where
  pub sound : IsSound (operator consts row state)
  pub one_each : OneEach state.kept
  pub ticking : All HasTicks state.kept
  pub held : All IsHeldUnsent state.kept
  pub flow_modems : All (λ entry. IsListedIn row entry.1.modem) state.flows
  pub response_modems : All (λ entry. IsListedIn row entry.modem) state.kept
  pub message_modems : All (λ arrival. IsListedIn row arrival.modem) state.inbox

-- ---- the first fault of several

-- the first fault of the items of a list, one by one
abbrev pub first_fault_in : {A : Type 0} → (A → Option StateFault) → List A → Option StateFault
first_fault_in fault_of [] = None
first_fault_in fault_of (x ∷ xs) = option_or (fault_of x) (first_fault_in fault_of xs)

-- this fault, if the test holds
abbrev pub fault_where : Bool → StateFault → Option StateFault
fault_where b fault = if b then Some fault else None

-- ---- a flow

-- the modem of a flow, a response or a message is not one of the row's
abbrev pub modem_fault : RowFields → Modem → Option StateFault
modem_fault row modem = fault_where (not (is_listed modem row.modems)) (faults.ModemInUse modem)

-- the number is not in the range
abbrev pub is_out_of : Numbers → ℕ → Bool
is_out_of range n = nat_lt n range.first || nat_lt range.last n

-- the SID of a flow, if it has one, is not in the row's range
abbrev pub sid_fault : RowFields → ℕ → Option ℕ → Option StateFault
sid_fault row sfid None = None
sid_fault row sfid (Some sid) = fault_where (is_out_of row.sids sid) (faults.SidOutOfRange sfid sid)

-- a set is admitted, and there is no SID for its grants
abbrev pub lacks_sid : Option ParamFields → Option ℕ → Bool
lacks_sid admitted sid = is_some admitted && not (is_some sid)

-- there is a backlog of a flow that does not request grants
abbrev pub has_stray_backlog : Flow → Bool
has_stray_backlog flow = not (asks_for_grants flow.sets.active) && nat_lt 0 flow.backlog

-- two parameter sets are equal in each parameter
abbrev pub same_params : ParamFields → ParamFields → Bool
same_params a b =
    scheduling_number a.scheduling == scheduling_number b.scheduling && a.priority == b.priority
    && a.max_sustained_rate == b.max_sustained_rate && a.max_burst == b.max_burst
    && a.min_reserved_rate == b.min_reserved_rate && a.request_policy == b.request_policy
    && a.polling_interval == b.polling_interval && a.poll_jitter == b.poll_jitter
    && a.grant_size == b.grant_size && a.grant_interval == b.grant_interval
    && a.grant_jitter == b.grant_jitter && a.grants_per_interval == b.grants_per_interval

-- both sets are null, or both are present and equal
abbrev pub same_set : Option ParamFields → Option ParamFields → Bool
same_set None None = true
same_set (Some a) (Some b) = same_params a b
same_set None (Some b) = false
same_set (Some a) None = false

-- sets that wait: the flow is provisioned with the same, there is a SID for them, and where the SID came with them none was admitted
abbrev pub pending_fault : ℕ → Flow → Option Pending → Option StateFault
pending_fault sfid flow None = None
pending_fault sfid flow (Some pending) =
    option_or (fault_where (not (same_set pending.sets.provisioned flow.sets.provisioned)) (faults.OtherProvisioned sfid))
    (option_or (fault_where (pending.sid_is_new && is_some flow.sets.admitted) (faults.SidNotNew sfid))
    (fault_where (lacks_sid pending.sets.admitted flow.sid) (faults.NoSid sfid)))

-- what a flow is now: it has a SID for its admitted set, no stray backlog, and is of no later frame
abbrev pub standing_fault : ℕ → ℕ → Flow → Option StateFault
standing_fault frame sfid flow =
    option_or (fault_where (lacks_sid flow.sets.admitted flow.sid) (faults.NoSid sfid))
    (option_or (fault_where (has_stray_backlog flow) (faults.StrayBacklog sfid))
    (fault_where (nat_lt frame flow.start || nat_lt frame flow.since) (faults.LaterFlow sfid)))

-- a flow's modem, its SFID, its SID, what it is now, and what waits of it, in this order
abbrev pub flow_fault : RowFields → ℕ → (ℕ × Flow) → Option StateFault
flow_fault row frame entry =
    option_or (modem_fault row entry.1.modem)
    (option_or (fault_where (is_out_of row.sfids entry.0) (faults.SfidOutOfRange entry.0))
    (option_or (sid_fault row entry.0 entry.1.sid)
    (option_or (standing_fault frame entry.0 entry.1)
    (pending_fault entry.0 entry.1 entry.1.pending))))

-- ---- all flows

-- the SFID is not greater than the one before it
abbrev pub is_not_after : Option ℕ → ℕ → Bool
is_not_after None sfid = false
is_not_after (Some previous) sfid = nat_le sfid previous

-- the first flow that does not follow the one before it
abbrev pub order_fault : Option ℕ → List (ℕ × Flow) → Option StateFault
order_fault previous [] = None
order_fault previous (entry ∷ flows) = option_or (fault_where (is_not_after previous entry.0) (faults.FlowOrder entry.0)) (order_fault (Some entry.0) flows)

-- a flow before it has its SID
abbrev pub sid_twice_fault : List (ℕ × Flow) → ℕ → Option ℕ → Option StateFault
sid_twice_fault before sfid None = None
sid_twice_fault before sfid (Some sid) = fault_where (is_some (flow_with sid before)) (faults.SidTwice sfid sid)

-- the first flow of which a flow before it has the SID
abbrev pub sids_fault : List (ℕ × Flow) → List (ℕ × Flow) → Option StateFault
sids_fault before [] = None
sids_fault before (entry ∷ flows) = option_or (sid_twice_fault before entry.0 entry.1.sid) (sids_fault (with_flow entry.0 entry.1 before) flows)

-- flows put one after the other
abbrev pub all_put_back : List (ℕ × Flow) → List (ℕ × Flow) → List (ℕ × Flow)
all_put_back before [] = before
all_put_back before (entry ∷ flows) = all_put_back (with_flow entry.0 entry.1 before) flows

-- what the types of a flow keep: its sets and those that wait are nested, and keep what their kinds of scheduling keep
abbrev pub HasTypedSets : SetsFields → Type 0
HasTypedSets sets = AreNested sets × AreOfTheirKinds sets

-- what the types of a flow keep of its sets and of those that wait
pub record IsTypedFlow (flow : Flow) : Type 0 where
  pub sets : HasTypedSets flow.sets
  pub pending : IfSome flow.pending (λ pending. HasTypedSets pending.sets)

-- ---- a cached response

-- all three sets are null
abbrev pub is_unset : SetsFields → Bool
is_unset sets = not (is_some sets.provisioned) && not (is_some sets.admitted) && not (is_some sets.active)

-- the flow waits for an acknowledgement of this kind
abbrev pub does_await : Kind → Option Flow → Bool
does_await kind None = false
does_await Dsa (Some flow) = is_some flow.pending && is_unset flow.sets
does_await Dsc (Some flow) = is_some flow.pending
does_await Dsd (Some flow) = false

-- the first fault of a cached response: its modem is not the row's, or it waits for a flow that does not wait for such an acknowledgement
abbrev pub response_fault : RowFields → List (ℕ × Flow) → KeptEntry → Option StateFault
response_fault row flows entry =
    option_or (modem_fault row entry.modem)
    (fault_where (is_waiting entry && not (does_await entry.kind (flow_at entry.sfid flows))) (faults.NotAwaited entry.sfid))

-- ---- all cached responses

-- the response waits for an acknowledgement of the flow of this SFID
abbrev pub awaits_flow : ℕ → KeptEntry → Bool
awaits_flow sfid entry = is_waiting entry && entry.sfid == sfid

-- the first response that waits for the same flow as a later one
abbrev pub pairs_fault : List KeptEntry → Option StateFault
pairs_fault [] = None
pairs_fault (entry ∷ entries) =
    option_or (fault_where (is_waiting entry && list_any (awaits_flow entry.sfid) entries) (faults.AwaitedTwice entry.sfid)) (pairs_fault entries)

-- its time has ended, or it is held with a retransmission left
abbrev pub is_off_time : KeptEntry → Bool
is_off_time entry = entry.ticks_left == 0 || (not (is_waiting entry) && nat_lt 0 entry.resends_left)

-- the first fault of a cached response after those before it: one of them is of its transaction, or its timer is invalid
abbrev pub entry_fault : List KeptEntry → KeptEntry → Option StateFault
entry_fault before entry =
    option_or (fault_where (is_some (find (is_of entry.modem entry.tid) before)) (faults.ResponseTwice entry.modem entry.tid))
    (fault_where (is_off_time entry) (faults.ResponseTimer entry.modem entry.tid))

-- the first response that the cache does not take after those before it
abbrev pub entries_fault : List KeptEntry → List KeptEntry → Option StateFault
entries_fault before [] = None
entries_fault before (entry ∷ entries) = option_or (entry_fault before entry) (entries_fault (before ++ entry ∷ []) entries)

-- ---- shares

-- the first fault of a share: its slice is not after the head and within the frame, or its budget is greater than its slice
abbrev pub share_fault : ConstsFields → Share → Option StateFault
share_fault consts share =
    option_or (fault_where (nat_lt share.slice.start consts.channel.head || nat_lt consts.channel.frame_minislots (share.slice.start + share.slice.length)) (faults.NoSuchSlice share.slice.start share.slice.length))
    (fault_where (nat_lt share.slice.length share.budget) (faults.BudgetOverSlice share.budget))

-- the first fault of a share that waits: that of a share, a frame that is not to come, or a budget below what is committed
abbrev pub next_fault : ConstsFields → ℕ → ℕ → Option NextShare → Option StateFault
next_fault consts frame committed None = None
next_fault consts frame committed (Some next) =
    option_or (share_fault consts next.share)
    (option_or (fault_where (nat_le next.from frame) (faults.NextNotLater next.from))
    (fault_where (nat_lt next.share.budget committed) (faults.OverNextBudget committed)))

-- ---- the whole state

-- the first count that is greater than the row's: of flows, of cached responses, of messages in the inbox
abbrev pub counts_fault : RowFields → OperatorState → Option StateFault
counts_fault row state =
    option_or (fault_where (nat_lt row.flows (length state.flows)) (faults.TooManyFlows (length state.flows)))
    (option_or (fault_where (nat_lt row.transactions (length state.kept)) (faults.TooManyResponses (length state.kept)))
    (fault_where (nat_lt row.inbox (length state.inbox)) (faults.TooManyMessages (length state.inbox))))

-- what the flows have committed is more than the quota of elements, or than the budget in force
abbrev pub committed_fault : ConstsFields → RowFields → OperatorState → Option StateFault
committed_fault consts row state =
    option_or (fault_where (nat_lt row.elements (committed_elements consts.units state.flows)) (faults.OverElements (committed_elements consts.units state.flows)))
    (fault_where (nat_lt state.share.budget (committed_minislots consts.units state.flows)) (faults.OverCommitted (committed_minislots consts.units state.flows)))

-- what is judged of the parts as they stand
abbrev pub parts_fault : ConstsFields → RowFields → OperatorState → Option StateFault
parts_fault consts row state =
    option_or (counts_fault row state)
    (option_or (order_fault None state.flows)
    (option_or (first_fault_in (flow_fault row state.frame) state.flows)
    (option_or (first_fault_in (λ arrival. modem_fault row arrival.modem) state.inbox)
    (share_fault consts state.share))))

-- what is judged next to the table of the flows
abbrev pub table_fault : ConstsFields → RowFields → OperatorState → Option StateFault
table_fault consts row state =
    option_or (committed_fault consts row state)
    (option_or (next_fault consts state.frame (committed_minislots consts.units state.flows) state.next)
    (option_or (first_fault_in (response_fault row state.flows) state.kept)
    (pairs_fault state.kept)))

-- the first fault of a state: the counts, the order of the flows, each flow, the modems of the messages, the share, SIDs that are twice,
-- what is committed, the share that waits, each response, responses that wait for one flow, and what the cache does not take
abbrev pub state_fault : ConstsFields → RowFields → OperatorState → Option StateFault
state_fault consts row state =
    option_or (parts_fault consts row state)
    (option_or (sids_fault [] state.flows)
    (option_or (table_fault consts row state)
    (entries_fault [] state.kept)))
