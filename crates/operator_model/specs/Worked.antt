-- A plant with one operator, worked through (implementation-specific).
use Rattle.std.specs.Prelude.{codes, ℕ, ◌+◌, ◌-◌, ◌*◌, List, [], ◌∷◌, nat_lt, Some, None, if◌then◌else◌}
use Rattle.tlv24.specs.declared.fields.FlowFields.{FlowFields}
use Rattle.dsx_messages.specs.declared.modem.Modem.{Modem}
use Rattle.grant_policy.specs.declared.policy.Policy.TheVariants.{Strict}
use Rattle.slice_scheduler.specs.Minislots.{Minislots}
use Rattle.slice_scheduler.specs.declared.span.Iuc.{Iuc}
use Rattle.slice_scheduler.specs.declared.span.Span.{Span}
use Rattle.plant.specs.declared.consts.ConstsFields.{ConstsFields}
use Rattle.plant.specs.declared.operator_row.RowFields.{RowFields}
use Rattle.operator_model.specs.declared.heard.Heard.TheVariants.{Message, Request}
use Rattle.operator_model.specs.declared.action.Action.{Action}
use Rattle.operator_model.specs.declared.action.Action.TheVariants.{Arrive, Work}
use Rattle.operator_model.specs.declared.output.Cause.{Cause}
use Rattle.operator_model.specs.declared.output.Output.{Output}
use Rattle.operator_model.specs.declared.output.Output.TheVariants.{Reply, Silent, Frame}
use Rattle.operator_model.specs.State.{Operator, operator, OperatorState, opened_state}
use Rattle.operator_model.specs.Machine.{own_run}

-- frames of 72 minislots of 16 bytes in 2 ms, the first 8 of them for all modems
abbrev pub worked_consts : ConstsFields
worked_consts = record {
  channel = record {
    frame_minislots = 72;
    head = 8;
    id = 1;
    ucd_count = 1;
    backoffs = record { ranging_start = 0; ranging_end = 0; data_start = 0; data_end = 0 };
    first_frame = 0;
  };
  units = record { frame_us = 2000; bytes_per_minislot = 16 };
  short_max = 4;
  timers = record { ack_wait = 150; resends = 3; hold = 1500 };
  classes = [];
}

-- best effort, of priority 5
abbrev pub gold : FlowFields
gold = record {
  reference = None;
  sfid = None;
  sid = None;
  class_name = None;
  errored = None;
  set_type = None;
  traffic_priority = Some 5;
  max_sustained_rate = None;
  max_burst = None;
  min_reserved_rate = None;
  scheduling_type = Some 2;
  request_policy = None;
  polling_interval = None;
  poll_jitter = None;
  grant_size = None;
  grant_interval = None;
  grant_jitter = None;
  grants_per_interval = None;
}

-- the same, and a class of this name
abbrev pub classed_consts : ConstsFields
classed_consts = record worked_consts { classes = record { name = codes "gold"; encoding = gold } ∷ [] }

-- 02:00:00:00:00:01
abbrev pub first_modem : Modem
first_modem = record { 0 = 2 ∷ 0 ∷ 0 ∷ 0 ∷ 0 ∷ 1 ∷ [] }

-- 02:00:00:00:00:02
abbrev pub second_modem : Modem
second_modem = record { 0 = 2 ∷ 0 ∷ 0 ∷ 0 ∷ 0 ∷ 2 ∷ [] }

-- the operator has the 32 minislots after the head
abbrev pub worked_row : RowFields
worked_row = record {
  name = 65 ∷ [];
  slice = record { start = 8; length = 32 };
  sfids = record { first = 257; last = 512 };
  sids = record { first = 257; last = 272 };
  flows = 4;
  transactions = 4;
  inbox = 4;
  budget = 32;
  elements = 8;
  policy = Strict;
  modems = first_modem ∷ second_modem ∷ [];
  provisions = [];
}

-- ---- bytes, as two hexadecimal digits each

-- the value of an upper-case hexadecimal digit
abbrev pub digit : ℕ → ℕ
digit code = if nat_lt code 65 then code - 48 else code - 55

-- the bytes of a text of hexadecimal digits, two for each
abbrev pub hex : List ℕ → List ℕ
hex [] = []
hex (high ∷ []) = []
hex (high ∷ low ∷ more) = (16 * digit high + digit low) ∷ hex more

-- ---- what is done

-- a message arrives, and is handled
abbrev pub message_actions : Modem → List ℕ → List Action
message_actions modem text = Arrive modem (Message (hex text)) ∷ Work ∷ []

-- a request for minislots arrives, and is handled
abbrev pub request_actions : Modem → ℕ → ℕ → List Action
request_actions modem sid minislots = Arrive modem (Request sid minislots) ∷ Work ∷ []

-- the DSA-REQ of a best-effort flow of reference 1 with its set admitted and active, in hexadecimal; the flow gets SFID 257 and SID 257
abbrev pub addition : List ℕ
addition = codes "0F0001180A010200010601060F0102"

-- the DSA-RSP to the addition, in hexadecimal
abbrev pub addition_reply : List ℕ
addition_reply = codes "10000100180E0102000102040000010103020101"

-- the DSA-ACK of the addition, in hexadecimal
abbrev pub addition_ack : List ℕ
addition_ack = codes "11000100"

-- the DSA-REQ of a flow of one unsolicited grant of 512 bytes in each frame, in hexadecimal: it needs the whole budget
abbrev pub full_addition : List ℕ
full_addition = codes "0F00011817010200010601060F0106130202001404000007D0160101"

-- ---- what comes of it

-- what a machine outputs that is opened, and of which this is done
abbrev pub answers : ConstsFields → RowFields → List Action → List Output
answers consts row actions = (own_run (operator consts row (opened_state consts row)) actions).outputs

-- the state of that machine after this
abbrev pub after : ConstsFields → RowFields → List Action → OperatorState
after consts row actions = (own_run (operator consts row (opened_state consts row)) actions).state

-- the operator once this was done
abbrev pub operator_after : ConstsFields → RowFields → List Action → Operator
operator_after consts row actions = operator consts row (after consts row actions)

-- a reply to this modem, in hexadecimal
abbrev pub hex_reply : Modem → List ℕ → Output
hex_reply modem text = Reply modem (hex text)

-- no reply to this modem, for this drop reason
abbrev pub silent : Modem → Cause → Output
silent modem cause = Silent (Some modem) cause

-- the operator's part of a frame
abbrev pub frame_within : Minislots → ℕ → List Span → List ℕ → Output
frame_within slice number spans pending = Frame number (record { slice = slice; spans = spans; pending = pending })

-- the worked operator's part of a frame: these spans, and the SIDs of these grants pending
abbrev pub frame : ℕ → List Span → List ℕ → Output
frame number spans pending = frame_within worked_row.slice number spans pending

-- a span of this SID and IUC, from this minislot on and of so many minislots
abbrev pub span : ℕ → Iuc → ℕ → ℕ → Span
span sid iuc start len = record { sid = sid; iuc = iuc; start = start; len = len }
