-- What decides what a step will answer: the check that holds of the message that it handles (implementation-specific).
use Rattle.std.specs.Prelude.{◌≡◌, ◌≢◌, ℕ, List, [], ◌∷◌, slice_get, Option, Some, None, Ok}
use Rattle.dsx_messages.specs.declared.modem.Modem.{Modem}
use Rattle.dsx_messages.specs.declared.kind.Kind.{Kind}
use Rattle.dsx_messages.specs.declared.message.Request.{Request}
use Rattle.dsx_messages.specs.declared.message.Message.TheVariants as messages
use Rattle.dsx_messages.specs.Reading.{message_of}
use Rattle.operator_model.specs.declared.heard.Heard.{Heard}
use Rattle.operator_model.specs.declared.heard.Heard.TheVariants as heards
use Rattle.operator_model.specs.declared.heard.Arrival.{Arrival}
use Rattle.operator_model.specs.Replay.{BookView}
use Rattle.operator_model.specs.State.{Operator, operator}
use Rattle.operator_model.specs.Verdict.{verdict}
use Rattle.lists.specs.First.{IsFirst}
use Rattle.trace_report.specs.table.Said.{said_by}
use Rattle.trace_report.specs.table.Table.{IsDecidedBy}
use Rattle.trace_report.specs.table.Messages.{Reading, HoldsOf, message_table}
use Rattle.trace_report.specs.declared.table.check.MessageCheck.TheVariants.{Judged}
use Rattle.run_model.specs.declared.step.Step.{Step}
use Rattle.run_model.specs.declared.step.Step.TheVariants as steps
use Rattle.run_model.specs.IsStateAfter.{CoreView}
use Rattle.trace_report.specs.declared.decision.Decision.{Decision}
use Rattle.trace_report.specs.declared.decision.Decision.TheVariants as decisions

-- ---- the message that a step handles

-- a message of a modem, and the operator that handles it
pub record AtHand : Type 0 where
  pub op : Operator
  pub modem : Modem
  pub bytes : List ℕ

-- what was received, where it is a message
abbrev pub message_heard : Operator → Modem → Heard → Option AtHand
message_heard op modem (heards.Message bytes) = Some (record { op = op; modem = modem; bytes = bytes })
message_heard op modem (heards.Request sid minislots) = None

-- the first of an inbox, where it is a message
abbrev pub first_message : Operator → List Arrival → Option AtHand
first_message op [] = None
first_message op (first ∷ others) = message_heard op first.modem first.heard

-- the message that an operator handles next: the first of its inbox, if it is a message
abbrev pub message_at_hand : Option BookView → Option AtHand
message_at_hand None = None
message_at_hand (Some book) = first_message (operator book.consts book.row book.state) book.state.inbox

-- the message that a step of a core handles: an operator that works handles the first of its inbox, and no other step handles a message
abbrev pub message_of_step : CoreView → Step → Option AtHand
message_of_step core (steps.Work op) = message_at_hand (slice_get core.books op)
message_of_step core (steps.Arrive modem heard) = None
message_of_step core (steps.Tick op) = None
message_of_step core (steps.Collect op) = None
message_of_step core (steps.Reslice from rows) = None

-- ---- what decides it

-- the message is an acknowledgement
abbrev pub IsAck : Reading → Type 0
IsAck reading = (kind : Kind) × (tid : ℕ) × (code : ℕ) × (reading ≡ Ok (messages.Ack kind tid code))

-- nothing decides an acknowledgement; a check of a message does; or, where the message is a request and none before it holds, a
-- check of the request, of which the machine's verdict is the answer
abbrev pub DecidesReading : Operator → Modem → Reading → Option Decision → Type 0
DecidesReading op modem reading None = IsAck reading
DecidesReading op modem reading (Some (decisions.Message check)) =
    (check ≢ Judged) × IsFirst (λ c. HoldsOf c op modem reading) message_table check
DecidesReading op modem reading (Some (decisions.Request check)) =
    (request : Request) × (reading ≡ Ok (messages.Request request))
    × IsFirst (λ c. HoldsOf c op modem reading) message_table Judged
    × IsDecidedBy op modem (said_by request) check (verdict op modem request)

-- where no message is handled nothing is decided
abbrev pub IsDecisionOf : Option AtHand → Option Decision → Type 0
IsDecisionOf None decision = decision ≡ None
IsDecisionOf (Some message) decision = DecidesReading message.op message.modem (message_of message.bytes) decision

-- this check, or nothing, decides what the step will answer in this core
abbrev pub IsDecision : CoreView → Step → Option Decision → Type 0
IsDecision core step decision = IsDecisionOf (message_of_step core step) decision
