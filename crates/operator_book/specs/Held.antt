-- What a book's machine holds next to its state (implementation-specific).
use Rattle.std.specs.Prelude.{◌≡◌, ◌≢◌, All, IfSome}
use Rattle.admission.specs.Free.{IsIn}
use Rattle.dsx_messages.specs.declared.kind.Kind.TheVariants.{Dsd}
use Rattle.dsx_messages.specs.declared.fault.MessageFault.{MessageFault}
use Rattle.dsx_messages.specs.declared.fault.MessageFault.TheVariants as faults
use Rattle.dsx_messages.specs.WellFormed.{IsFlowIdOf}
use Rattle.flow_table.specs.Table.{FlowTable, HasRoomFor, sids_of}
use Rattle.plant.specs.declared.consts.ConstsFields.{ConstsFields}
use Rattle.plant.specs.declared.operator_row.RowFields.{RowFields}
use Rattle.transactions.specs.Keeping.{Keeping}
use Rattle.operator_model.specs.declared.verdict.Verdict.{Verdict}
use Rattle.operator_model.specs.declared.verdict.Verdict.TheVariants.{Refused, Put, Deleted}
use Rattle.operator_model.specs.State.{Operator}
use Rattle.operator_book.specs.declared.boxed_verdict.BoxedVerdict.{BoxedVerdict}
use Rattle.operator_book.specs.declared.boxed_verdict.BoxedVerdict.TheVariants as boxed
use Rattle.operator_model.specs.Handle.{StepResult}

-- the flows and the cached responses have the row's room, the plant's measures and its timers
pub record IsMachine (consts : ConstsFields) (row : RowFields) (flows : FlowTable) (kept : Keeping) : Type 0 where
  pub flows_room : flows.capacity ≡ row.flows
  pub units : flows.units ≡ consts.units
  pub kept_room : kept.capacity ≡ row.transactions
  pub timers : kept.waits ≡ consts.timers

-- the machine's flows as a table
abbrev pub flow_table_of : Operator → FlowTable
flow_table_of m = record { capacity = m.row.flows; units = m.consts.units; flows = m.state.flows }

-- the SIDs of the flows are of the row's range
abbrev pub HasOwnSids : Operator → Type 0
HasOwnSids m = All (IsIn m.row.sids) (sids_of m.state.flows)

-- the verdict, without the box of its flow
abbrev pub verdict_of : BoxedVerdict → Verdict
verdict_of (boxed.Refused reply) = Refused reply
verdict_of (boxed.Put sfid flow reply) = Put sfid flow.value reply
verdict_of (boxed.Deleted sfid reply) = Deleted sfid reply

-- a flow that is to be put may be
abbrev pub MayPut : FlowTable → Verdict → Type 0
MayPut table (Refused reply) = Unit {0}
MayPut table (Put sfid flow reply) = HasRoomFor table sfid flow
MayPut table (Deleted sfid reply) = Unit {0}

-- what has run, and what it output
abbrev pub with_state : Operator → StepResult → Operator
with_state m ran = record m { state = ran.state }

-- of a request at fault: it is an addition or a change, and the identifier that is reported is of its kind
abbrev pub HasRightId : MessageFault → Type 0
HasRightId (faults.Tlv tid kind id fault) = (kind ≢ Dsd) × IfSome id (IsFlowIdOf kind)
HasRightId fault = Unit {0}
