-- The checks of a message that is not an acknowledgement (CM-SP-MULPIv3.1, 11.2; which checks there are, their order and
-- what is kept are implementation-specific).
use Rattle.std.specs.Prelude.{◌≡◌, ◌≢◌, ℕ, ◌≤◌, ◌⊎◌, List, [], ◌∷◌, length, Result, Ok, Err}
use Rattle.tlv24.specs.declared.tlv.TlvFault.TheVariants as tlv_faults
use Rattle.dsx_messages.specs.declared.modem.Modem.{Modem}
use Rattle.dsx_messages.specs.declared.kind.Kind.{Kind}
use Rattle.dsx_messages.specs.declared.code.Code.{Code}
use Rattle.dsx_messages.specs.declared.code.Code.TheVariants.{RejectOther, RejectUnrecognizedSetting, RejectTemporary, RejectUnknownTransaction, RejectInvalidForContext}
use Rattle.dsx_messages.specs.declared.reply.Detail.{Detail}
use Rattle.dsx_messages.specs.declared.reply.Detail.TheVariants.{Nothing, Errored}
use Rattle.dsx_messages.specs.declared.message.Request.{Request}
use Rattle.dsx_messages.specs.declared.message.Message.{Message}
use Rattle.dsx_messages.specs.declared.message.Message.TheVariants as messages
use Rattle.dsx_messages.specs.declared.fault.MessageFault.{MessageFault}
use Rattle.dsx_messages.specs.declared.fault.MessageFault.TheVariants as faults
use Rattle.dsx_messages.specs.Spelling.{spell_reply}
use Rattle.transactions.specs.declared.entry.KeptEntry.{KeptEntry}
use Rattle.operator_model.specs.declared.output.Cause.{Cause}
use Rattle.operator_model.specs.declared.output.Cause.TheVariants as causes
use Rattle.operator_model.specs.declared.verdict.Verdict.{Verdict}
use Rattle.operator_model.specs.declared.verdict.Verdict.TheVariants.{Refused}
use Rattle.operator_model.specs.State.{Operator}
use Rattle.operator_model.specs.Handle.{StepResult, silent, reply_result, carried_out}
use Rattle.trace_report.specs.declared.table.check.Check.{Check}
use Rattle.trace_report.specs.declared.table.check.MessageCheck.{MessageCheck}
use Rattle.trace_report.specs.declared.table.check.MessageCheck.TheVariants.{Unread, OfCmts, Repeated, KeptFull, Faulty, Judged}
use Rattle.lists.specs.First.{IsFirst}
use Rattle.trace_report.specs.table.Said.{said_by}
use Rattle.trace_report.specs.table.Table.{IsDecidedBy}

-- what a message is read as: what it says, or its first fault
abbrev pub Reading : Type 0
Reading = Result Message MessageFault

-- it is not an acknowledgement
abbrev pub IsNoAck : Reading → Type 0
IsNoAck reading = (kind : Kind) (tid code : ℕ) → reading ≢ Ok (messages.Ack kind tid code)

-- a request of this kind under this transaction ID, whose rest was read or is invalid
abbrev pub ReadsAsRequest : Reading → Kind → ℕ → Type 0
ReadsAsRequest (Ok (messages.Request request)) kind tid = ((said_by request).kind ≡ kind) × ((said_by request).tid ≡ tid)
ReadsAsRequest (Err (faults.Tlv of_tid of_kind id fault)) kind tid = (of_kind ≡ kind) × (of_tid ≡ tid)
ReadsAsRequest (Err (faults.LeftOut of_tid of_kind found)) kind tid = (of_kind ≡ kind) × (of_tid ≡ tid)
ReadsAsRequest reading kind tid = ⊥

-- the entry that is kept of a modem's transaction
abbrev pub IsCachedEntry : Operator → Modem → ℕ → KeptEntry → Type 0
IsCachedEntry op modem tid entry = IsFirst (λ e. (e.modem ≡ modem) × (e.tid ≡ tid)) op.state.kept entry

-- ---- what is not answered, and what is refused

-- no byte, a type that is not ours, a fixed part that is short
abbrev pub IsUnread : Reading → Cause → Type 0
IsUnread reading cause =
    ((reading ≡ Err faults.Empty) × (cause ≡ causes.Empty)) ⊎ (((reading ≡ Err faults.Short) × (cause ≡ causes.Short))
    ⊎ ((mtype : ℕ) × (reading ≡ Err (faults.NotOurs mtype)) × (cause ≡ causes.NotOurs)))

-- the confirmation code and the detail of a request whose rest is invalid: it is cut, a subtype has a wrong length, is repeated or is out
-- of range, or a type is left out
abbrev pub IsRefusedFor : MessageFault → Code → Detail → Type 0
IsRefusedFor (faults.Tlv tid kind id (tlv_faults.Cut place)) code detail = (code ≡ RejectOther) × (detail ≡ Nothing)
IsRefusedFor (faults.Tlv tid kind id (tlv_faults.WrongLength subtype)) code detail =
    (code ≡ RejectUnrecognizedSetting) × (detail ≡ Errored id subtype)
IsRefusedFor (faults.Tlv tid kind id (tlv_faults.Twice subtype)) code detail =
    (code ≡ RejectInvalidForContext) × (detail ≡ Errored id subtype)
IsRefusedFor (faults.Tlv tid kind id (tlv_faults.Range subtype)) code detail =
    (code ≡ RejectInvalidForContext) × (detail ≡ Errored id subtype)
IsRefusedFor (faults.LeftOut tid kind found) code detail = (code ≡ RejectUnrecognizedSetting) × (detail ≡ Nothing)
IsRefusedFor fault code detail = ⊥

-- a refusal is reported, and nothing is kept
abbrev pub IsTurnedAway : Operator → Modem → Kind → ℕ → Code → StepResult → Type 0
IsTurnedAway op modem kind tid code ran =
    ran ≡ reply_result op.state modem (spell_reply (record { kind = kind; tid = tid; code = code; detail = Nothing }))

-- the same kind of request gets the kept bytes again, another kind no answer
abbrev pub IsRepeatOf : Operator → Modem → Kind → KeptEntry → StepResult → Type 0
IsRepeatOf op modem kind entry ran =
    ((entry.kind ≡ kind) × (ran ≡ reply_result op.state modem entry.reply))
    ⊎ ((entry.kind ≢ kind) × (ran ≡ silent op.state modem causes.TidInUse))

-- ---- the checks

-- when each check of a message holds, by itself, whatever the others say
abbrev pub HoldsOf : MessageCheck → Operator → Modem → Reading → Type 0
HoldsOf Unread op modem reading = (cause : Cause) × IsUnread reading cause
HoldsOf OfCmts op modem reading = (kind : Kind) × (tid : ℕ) × ReadsAsRequest reading kind tid × (32768 ≤ tid)
HoldsOf Repeated op modem reading =
    (kind : Kind) × (tid : ℕ) × (entry : KeptEntry) × ReadsAsRequest reading kind tid × IsCachedEntry op modem tid entry
HoldsOf KeptFull op modem reading =
    (kind : Kind) × (tid : ℕ) × ReadsAsRequest reading kind tid × (op.row.transactions ≤ length op.state.kept)
HoldsOf Faulty op modem reading =
    (kind : Kind) × (tid : ℕ) × (fault : MessageFault) × ReadsAsRequest reading kind tid × (reading ≡ Err fault)
HoldsOf Judged op modem reading = (request : Request) × (reading ≡ Ok (messages.Request request))

-- what each check of a message results in: a drop reason, a refusal, the cached reply, or the verdict of the request
abbrev pub AnswersOf : MessageCheck → Operator → Modem → Reading → StepResult → Type 0
AnswersOf Unread op modem reading ran = (cause : Cause) × IsUnread reading cause × (ran ≡ silent op.state modem cause)
AnswersOf OfCmts op modem reading ran =
    (kind : Kind) × (tid : ℕ) × ReadsAsRequest reading kind tid
    × IsTurnedAway op modem kind tid RejectUnknownTransaction ran
AnswersOf Repeated op modem reading ran =
    (kind : Kind) × (tid : ℕ) × (entry : KeptEntry) × ReadsAsRequest reading kind tid × IsCachedEntry op modem tid entry
    × IsRepeatOf op modem kind entry ran
AnswersOf KeptFull op modem reading ran =
    (kind : Kind) × (tid : ℕ) × ReadsAsRequest reading kind tid × IsTurnedAway op modem kind tid RejectTemporary ran
AnswersOf Faulty op modem reading ran =
    (kind : Kind) × (tid : ℕ) × (fault : MessageFault) × (code : Code) × (detail : Detail)
    × ReadsAsRequest reading kind tid × (reading ≡ Err fault)
    × IsRefusedFor fault code detail
    × (ran ≡ carried_out op modem kind tid
    (Refused (record { kind = kind; tid = tid; code = code; detail = detail })))
AnswersOf Judged op modem reading ran =
    (request : Request) × (check : Check) × (verdict : Verdict) × (reading ≡ Ok (messages.Request request))
    × IsDecidedBy op modem (said_by request) check verdict
    × (ran ≡ carried_out op modem (said_by request).kind (said_by request).tid verdict)

-- the checks 0 to 4 of docs/RULES.md, in their order, and then the check of the request
abbrev pub message_table : List MessageCheck
message_table = Unread ∷ OfCmts ∷ Repeated ∷ KeptFull ∷ Faulty ∷ Judged ∷ []

-- this check of a message that is not an acknowledgement holds, none before it does, and this is what handling the message results in
pub record IsHandledBy (op : Operator) (modem : Modem) (reading : Reading) (check : MessageCheck) (ran : StepResult) : Type 0 where
  pub first : IsFirst (λ c. HoldsOf c op modem reading) message_table check
  pub answers : AnswersOf check op modem reading ran
