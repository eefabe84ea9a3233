-- A request worked through by the table (implementation-specific).
use Rattle.std.specs.Prelude.{codes, ◌≡◌, ℕ, List, [], ◌∷◌, ◌++◌, Result, Ok}
use Rattle.dsx_messages.specs.declared.modem.Modem.{Modem}
use Rattle.dsx_messages.specs.declared.message.Message.{Message}
use Rattle.dsx_messages.specs.declared.message.Message.TheVariants as messages
use Rattle.dsx_messages.specs.declared.fault.MessageFault.{MessageFault}
use Rattle.dsx_messages.specs.Reading.{message_of}
use Rattle.dsx_messages.specs.Spelling.{spell_reply}
use Rattle.plant.specs.declared.operator_row.RowFields.{RowFields}
use Rattle.operator_model.specs.declared.action.Action.{Action}
use Rattle.operator_model.specs.declared.output.Output.{Output}
use Rattle.operator_model.specs.declared.verdict.Verdict.{Verdict}
use Rattle.operator_model.specs.State.{Operator, operator}
use Rattle.operator_model.specs.Handle.{StepResult, reply_of}
use Rattle.operator_model.specs.Worked.{worked_consts, worked_row, first_modem, hex, message_actions, addition, addition_ack, full_addition, after}
use Rattle.trace_report.specs.declared.table.check.Check.{Check}
use Rattle.trace_report.specs.declared.table.check.MessageCheck.{MessageCheck}
use Rattle.trace_report.specs.table.Said.{said_by}
use Rattle.trace_report.specs.table.Table.{IsDecidedBy}
use Rattle.trace_report.specs.table.Messages.{IsHandledBy}

-- the worked plant's operator with this row, once this was done
abbrev pub worked_operator : RowFields → List Action → Operator
worked_operator row actions = operator worked_consts row (after worked_consts row actions)

-- a best-effort flow is added and acknowledged
abbrev pub one_added : List Action
one_added = message_actions first_modem addition ++ message_actions first_modem addition_ack

-- the flow that needs the whole budget is added and acknowledged
abbrev pub full_added : List Action
full_added = message_actions first_modem full_addition ++ message_actions first_modem addition_ack

-- what is read is a request that this check decides, and it is answered with this reply
abbrev pub IsAnsweredAs : Operator → Modem → Check → List ℕ → Result Message MessageFault → Type 0
IsAnsweredAs op modem check reply (Ok (messages.Request request)) =
    (answer : Verdict) × IsDecidedBy op modem (said_by request) check answer × (spell_reply (reply_of answer) ≡ reply)
IsAnsweredAs op modem check reply reading = ⊥

-- the message of this text of a modem is decided by this check, and the reply is this one
abbrev pub Decides : Operator → Modem → List ℕ → Check → List ℕ → Type 0
Decides op modem text check reply = IsAnsweredAs op modem check (hex reply) (message_of (hex text))

-- the worked row, with a flow of the first modem that is provisioned with best effort and 100 bits a second
abbrev pub provisioned_row : RowFields
provisioned_row =
    record worked_row { provisions = record { modem = first_modem; encoding = hex (codes "0601010F01020A0400000064") } ∷ [] }

-- the message of this text of a modem is decided by this check, and this is output
abbrev pub HandlesAs : Operator → Modem → List ℕ → MessageCheck → List Output → Type 0
HandlesAs op modem text check outputs =
    (ran : StepResult) × IsHandledBy op modem (message_of (hex text)) check ran × (ran.outputs ≡ outputs)
