-- The records of a snapshot, a line each (implementation-specific).
use Rattle.std.specs.Prelude.{◌==◌, ℕ, ◌+◌, ◌-◌, ◌&&◌, ◌||◌, not, nat_le, nat_lt, Bool, true, List, [], length, take, drop, slice_get, Option, Some, None, Result, Ok, Err, if◌then◌else◌, codes}
use Rattle.std.specs.List.{list_any}
use Rattle.std.specs.Str.{bytes_eq}
use Rattle.lists.specs.Results.{◌>>=◌}
use Rattle.dsx_messages.specs.declared.kind.Kind.{Kind}
use Rattle.dsx_messages.specs.declared.kind.Kind.TheVariants.{Dsa, Dsc, Dsd}
use Rattle.transactions.specs.declared.entry.KeptEntry.{KeptEntry}
use Rattle.transactions.specs.declared.entry.ResponseState.{ResponseState}
use Rattle.transactions.specs.declared.entry.ResponseState.TheVariants.{Waiting, Held}
use Rattle.transactions.specs.Entry.{is_waiting, is_of}
use Rattle.flow_table.specs.declared.flow.Pending.{Pending}
use Rattle.operator_model.specs.declared.heard.Heard.TheVariants.{Message, Request}
use Rattle.operator_model.specs.declared.heard.Arrival.{Arrival}
use Rattle.operator_model.specs.declared.share.Share.{Share}
use Rattle.operator_model.specs.declared.share.NextShare.{NextShare}
use Rattle.snapshot_format.specs.declared.fault.Wrong.{Wrong}
use Rattle.snapshot_format.specs.declared.fault.Wrong.TheVariants.{Shape, Range}
use Rattle.snapshot_format.specs.declared.saved.SavedFlow.{SavedFlow}
use Rattle.snapshot_format.specs.declared.saved.SavedOperator.{SavedOperator}
use Rattle.snapshot_format.specs.declared.operator_records.OperatorHead.{OperatorHead}
use Rattle.snapshot_format.specs.Reading.{Taken, place_result, take_items}
use Rattle.snapshot_format.specs.Fields.{take_literal, take_presence, take_field, take_number, take_name, take_modem, take_bytes}
use Rattle.snapshot_format.specs.Sets.{take_sets}

-- ---- a flow

-- the SID of a flow, if it has one
unfoldable pub take_sid : List ℕ → Taken (Option ℕ)
take_sid bytes = do
  presence ← take_presence 32 bytes
  if presence.0 then (take_number 65535 32 presence.1 >>= λ sid. Ok (Some sid.0, sid.1)) else Ok (None, presence.1)

-- whether the request gave the flow its SID, and the sets that wait
unfoldable pub take_waiting : List ℕ → Taken Pending
take_waiting bytes = do
  new ← take_number 1 32 bytes
  sets ← take_sets new.1
  Ok (record { sets = sets.0; sid_is_new = new.0 == 1 }, sets.1)

-- the sets that wait, if some do
unfoldable pub take_pending : List ℕ → Taken (Option Pending)
take_pending bytes = do
  presence ← take_presence 32 bytes
  if presence.0 then (take_waiting presence.1 >>= λ pending. Ok (Some pending.0, pending.1)) else Ok (None, presence.1)

-- `flow sfid modem sid sets pending start backlog since`
unfoldable pub take_flow : List ℕ → Taken SavedFlow
take_flow bytes = do
  head ← take_literal (codes "flow ") bytes
  sfid ← take_number 4294967295 32 head
  modem ← take_modem 32 sfid.1
  sid ← take_sid modem.1
  sets ← take_sets sid.1
  pending ← take_pending sets.1
  start ← take_number 4294967295 32 pending.1
  backlog ← take_number 65535 32 start.1
  since ← take_number 4294967295 10 backlog.1
  Ok (
    record {
      sfid = sfid.0;
      flow = record { modem = modem.0; sid = sid.0; sets = sets.0; pending = pending.0; start = start.0; backlog = backlog.0; since = since.0 };
    },
    since.1,
  )

-- the SFID is greater than that of the flow before it, if there is one
abbrev pub can_follow : Option SavedFlow → ℕ → Bool
can_follow None sfid = true
can_follow (Some last) sfid = nat_lt last.sfid sfid

-- a flow has a greater identifier than the last of those before it
abbrev pub flow_follows : List SavedFlow → SavedFlow → Bool
flow_follows before flow = can_follow (slice_get before (length before - 1)) flow.sfid

-- so many flows
unfoldable pub take_flows : ℕ → List ℕ → Taken (List SavedFlow)
take_flows count bytes = take_items take_flow flow_follows count [] bytes

-- ---- a cached response

-- the kind of a transaction: `dsa`, `dsc` or `dsd`
abbrev pub kind_in : List ℕ → Result Kind Wrong
kind_in field =
    if bytes_eq field (codes "dsa") then Ok Dsa else
    if bytes_eq field (codes "dsc") then Ok Dsc else
    if bytes_eq field (codes "dsd") then Ok Dsd else
    Err Shape

-- a field that is the kind of a transaction
unfoldable pub take_kind : List ℕ → Taken Kind
take_kind bytes = take_field 32 bytes >>= λ field. place_result (kind_in field.0) bytes field.1

-- the state of a cached response: `waiting` or `held`
abbrev pub state_in : List ℕ → Result ResponseState Wrong
state_in field =
    if bytes_eq field (codes "waiting") then Ok Waiting else
    if bytes_eq field (codes "held") then Ok Held else
    Err Shape

-- a field that is the state of a cached response
unfoldable pub take_state : List ℕ → Taken ResponseState
take_state bytes = take_field 32 bytes >>= λ field. place_result (state_in field.0) bytes field.1

-- its time has not ended, and where it is held no resend is left
abbrev pub is_timed : KeptEntry → Bool
is_timed entry = nat_le 1 entry.ticks_left && (is_waiting entry || entry.resends_left == 0)

-- a cached response, if its timer is valid
abbrev pub checked_entry : KeptEntry → Result KeptEntry Wrong
checked_entry entry = if is_timed entry then Ok entry else Err Range

-- `response modem tid kind sfid state ticks resends reply`
unfoldable pub take_entry : List ℕ → Taken KeptEntry
take_entry bytes = do
  head ← take_literal (codes "response ") bytes
  modem ← take_modem 32 head
  tid ← take_number 65535 32 modem.1
  kind ← take_kind tid.1
  sfid ← take_number 4294967295 32 kind.1
  standing ← take_state sfid.1
  ticks ← take_number 65535 32 standing.1
  resends ← take_number 255 32 ticks.1
  reply ← take_bytes 10 resends.1
  place_result (checked_entry (record {
    modem = modem.0;
    tid = tid.0;
    kind = kind.0;
    reply = reply.0;
    sfid = sfid.0;
    standing = standing.0;
    ticks_left = ticks.0;
    resends_left = resends.0;
  })) bytes reply.1

-- a response is of another transaction than those before it
abbrev pub entry_follows : List KeptEntry → KeptEntry → Bool
entry_follows before entry = not (list_any (is_of entry.modem entry.tid) before)

-- so many cached responses
unfoldable pub take_entries : ℕ → List ℕ → Taken (List KeptEntry)
take_entries count bytes = take_items take_entry entry_follows count [] bytes

-- ---- what was received

-- `message modem bytes`, after its first word
unfoldable pub take_message : List ℕ → Taken Arrival
take_message bytes = do
  modem ← take_modem 32 bytes
  message ← take_bytes 10 modem.1
  Ok (record { modem = modem.0; heard = Message message.0 }, message.1)

-- `request modem sid minislots`, after its first word
unfoldable pub take_request : List ℕ → Taken Arrival
take_request bytes = do
  modem ← take_modem 32 bytes
  sid ← take_number 65535 32 modem.1
  minislots ← take_number 65535 10 sid.1
  Ok (record { modem = modem.0; heard = Request sid.0 minislots.0 }, minislots.1)

-- a message or a bandwidth request in the inbox
unfoldable pub take_arrival : List ℕ → Taken Arrival
take_arrival bytes =
    if bytes_eq (take 8 bytes) (codes "message ") then take_message (drop 8 bytes)
    else take_literal (codes "request ") bytes >>= λ rest. take_request rest

-- an arrival follows whatever was received before it
abbrev pub arrival_follows : List Arrival → Arrival → Bool
arrival_follows before arrival = true

-- so many messages and bandwidth requests in the inbox
unfoldable pub take_arrivals : ℕ → List ℕ → Taken (List Arrival)
take_arrivals count bytes = take_items take_arrival arrival_follows count [] bytes

-- ---- slices and budgets

-- a slice and a budget, if the slice is one that a frame can have
abbrev pub checked_share : ℕ → ℕ → ℕ → Result Share Wrong
checked_share start length budget =
    if nat_le 1 length && nat_le (start + length) 4096 then Ok (record { slice = record { start = start; length = length }; budget = budget }) else Err Range

-- `start length budget`
unfoldable pub take_share : List ℕ → Taken Share
take_share bytes = do
  start ← take_number 65535 32 bytes
  length ← take_number 65535 32 start.1
  budget ← take_number 65535 10 length.1
  place_result (checked_share start.0 length.0 budget.0) bytes budget.1

-- `slice start length budget`
unfoldable pub take_slice : List ℕ → Taken Share
take_slice bytes = take_literal (codes "slice ") bytes >>= λ rest. take_share rest

-- `from start length budget`
unfoldable pub take_next_share : List ℕ → Taken NextShare
take_next_share bytes = do
  from ← take_number 4294967295 32 bytes
  share ← take_share from.1
  Ok (record { from = from.0; share = share.0 }, share.1)

-- `next =from start length budget`, or `next -`
unfoldable pub take_next : List ℕ → Taken (Option NextShare)
take_next bytes = do
  head ← take_literal (codes "next ") bytes
  presence ← take_presence 10 head
  if presence.0 then (take_next_share presence.1 >>= λ next. Ok (Some next.0, next.1)) else Ok (None, presence.1)

-- ---- an operator

-- `operator name flows responses arrivals`
unfoldable pub take_head : List ℕ → Taken OperatorHead
take_head bytes = do
  head ← take_literal (codes "operator ") bytes
  name ← take_name 32 head
  flows ← take_number 65535 32 name.1
  kept ← take_number 65535 32 flows.1
  inbox ← take_number 65535 10 kept.1
  Ok (record { name = name.0; flows = flows.0; kept = kept.0; inbox = inbox.0 }, inbox.1)

-- an operator: its head, its shares, its flows, its cached responses and its inbox
unfoldable pub take_operator : List ℕ → Taken SavedOperator
take_operator bytes = do
  head ← take_head bytes
  share ← take_slice head.1
  next ← take_next share.1
  flows ← take_flows head.0.flows next.1
  kept ← take_entries head.0.kept flows.1
  inbox ← take_arrivals head.0.inbox kept.1
  Ok (record { name = head.0.name; share = share.0; next = next.0; flows = flows.0; kept = kept.0; inbox = inbox.0 }, inbox.1)

-- an operator has another name than those before it
abbrev pub operator_follows : List SavedOperator → SavedOperator → Bool
operator_follows before operator = not (list_any (λ other. bytes_eq other.name operator.name) before)

-- so many operators
unfoldable pub take_operators : ℕ → List ℕ → Taken (List SavedOperator)
take_operators count bytes = take_items take_operator operator_follows count [] bytes
