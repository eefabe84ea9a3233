-- Which messages no check decides; and whether each check of a message holds, as a test (implementation-specific; the tests are for inner
-- functions).
use Rattle.std.specs.Prelude.{◌&&◌, ℕ, Bool, true, false, length, nat_le, Option, Some, None, Ok, Err, is_some, ⊤}
use Rattle.std.specs.List.{list_any}
use Rattle.dsx_messages.specs.declared.modem.Modem.{Modem}
use Rattle.dsx_messages.specs.declared.kind.Kind.{Kind}
use Rattle.dsx_messages.specs.declared.message.Message.TheVariants as messages
use Rattle.dsx_messages.specs.declared.fault.MessageFault.TheVariants as faults
use Rattle.transactions.specs.Entry.{is_of}
use Rattle.operator_model.specs.State.{Operator}
use Rattle.trace_report.specs.table.Said.{said_by}
use Rattle.trace_report.specs.table.Messages.{Reading}
use Rattle.trace_report.specs.declared.table.check.MessageCheck.{MessageCheck}
use Rattle.trace_report.specs.declared.table.check.MessageCheck.TheVariants.{Unread, OfCmts, Repeated, KeptFull, Faulty, Judged}

-- an acknowledgement, or memory ran out for what the message says
abbrev pub HasNoCheck : Reading → Type 0
HasNoCheck (Ok (messages.Ack kind tid code)) = ⊤
HasNoCheck (Err faults.NoMemory) = ⊤
HasNoCheck reading = ⊥

-- ---- tests

-- the kind and the transaction ID of a request, whose rest was read or is invalid
abbrev pub transaction_in : Reading → Option (Kind × ℕ)
transaction_in (Ok (messages.Request request)) = Some ((said_by request).kind, (said_by request).tid)
transaction_in (Ok (messages.Ack kind tid code)) = None
transaction_in (Err (faults.Tlv tid kind id fault)) = Some (kind, tid)
transaction_in (Err (faults.LeftOut tid kind found)) = Some (kind, tid)
transaction_in (Err faults.Empty) = None
transaction_in (Err (faults.NotOurs mtype)) = None
transaction_in (Err faults.Short) = None
transaction_in (Err faults.NoMemory) = None

-- the message has no byte, a type that is not ours, or a fixed part that is cut short
abbrev pub is_unread : Reading → Bool
is_unread (Err faults.Empty) = true
is_unread (Err (faults.NotOurs mtype)) = true
is_unread (Err faults.Short) = true
is_unread (Err (faults.Tlv tid kind id fault)) = false
is_unread (Err (faults.LeftOut tid kind found)) = false
is_unread (Err faults.NoMemory) = false
is_unread (Ok message) = false

-- the transaction ID is one of the CMTS: 0x8000 or more
abbrev pub is_of_cmts_in : Option (Kind × ℕ) → Bool
is_of_cmts_in None = false
is_of_cmts_in (Some transaction) = nat_le 32768 transaction.1

-- a response of this transaction of the modem is cached
abbrev pub is_kept_in : Operator → Modem → Option (Kind × ℕ) → Bool
is_kept_in op modem None = false
is_kept_in op modem (Some transaction) = list_any (is_of modem transaction.1) op.state.kept

-- the rest of the request is invalid: it is cut, has an invalid flow encoding, or a type that is left out
abbrev pub is_faulty : Reading → Bool
is_faulty (Err (faults.Tlv tid kind id fault)) = true
is_faulty (Err (faults.LeftOut tid kind found)) = true
is_faulty (Err faults.Empty) = false
is_faulty (Err (faults.NotOurs mtype)) = false
is_faulty (Err faults.Short) = false
is_faulty (Err faults.NoMemory) = false
is_faulty (Ok message) = false

-- the message is a request without a fault
abbrev pub is_request : Reading → Bool
is_request (Ok (messages.Request request)) = true
is_request (Ok (messages.Ack kind tid code)) = false
is_request (Err fault) = false

-- whether each check of a message holds, by itself
abbrev pub does_hold_of : MessageCheck → Operator → Modem → Reading → Bool
does_hold_of Unread op modem reading = is_unread reading
does_hold_of OfCmts op modem reading = is_of_cmts_in (transaction_in reading)
does_hold_of Repeated op modem reading = is_kept_in op modem (transaction_in reading)
does_hold_of KeptFull op modem reading = is_some (transaction_in reading) && nat_le op.row.transactions (length op.state.kept)
does_hold_of Faulty op modem reading = is_faulty reading
does_hold_of Judged op modem reading = is_request reading

-- the same, by the operator, the modem and the message
abbrev pub message_test : Operator → Modem → Reading → MessageCheck → Bool
message_test op modem reading check = does_hold_of check op modem reading
