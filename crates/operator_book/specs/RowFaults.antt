-- All faults that a state has under an operator's row, of those that another row can give to the state of a machine in service
-- (implementation-specific).
use Rattle.std.specs.Prelude.{◌++◌, ℕ, List, nat_lt, length, Option, None, option_to_list, if◌then◌else◌}
use Rattle.std.specs.List.{flat_map}
use Rattle.param_sets.specs.Units.{UnitSizes}
use Rattle.plant.specs.declared.operator_row.RowFields.{RowFields}
use Rattle.transactions.specs.declared.entry.KeptEntry.{KeptEntry}
use Rattle.flow_table.specs.declared.flow.Flow.{Flow}
use Rattle.flow_table.specs.Table.{committed_elements}
use Rattle.operator_model.specs.declared.heard.Arrival.{Arrival}
use Rattle.operator_model.specs.State.{OperatorState}
use Rattle.operator_book.specs.Resuming.{fault_where, modem_fault, is_out_of, sid_fault}
use Rattle.operator_book.specs.declared.state_fault.StateFault.{StateFault}
use Rattle.operator_book.specs.declared.state_fault.StateFault.TheVariants as faults

-- there are more flows than the row allows
abbrev pub flows_over : RowFields → OperatorState → Option StateFault
flows_over row state = fault_where (nat_lt row.flows (length state.flows)) (faults.TooManyFlows (length state.flows))

-- there are more cached responses than the row allows
abbrev pub responses_over : RowFields → OperatorState → Option StateFault
responses_over row state = fault_where (nat_lt row.transactions (length state.kept)) (faults.TooManyResponses (length state.kept))

-- there are more messages in the inbox than the row allows
abbrev pub messages_over : RowFields → OperatorState → Option StateFault
messages_over row state = fault_where (nat_lt row.inbox (length state.inbox)) (faults.TooManyMessages (length state.inbox))

-- each count that is greater than the row's
abbrev pub count_faults : RowFields → OperatorState → List StateFault
count_faults row state = option_to_list (flows_over row state) ++ option_to_list (responses_over row state) ++ option_to_list (messages_over row state)

-- the SFID is not in the row's range
abbrev pub sfid_fault : RowFields → ℕ → Option StateFault
sfid_fault row sfid = fault_where (is_out_of row.sfids sfid) (faults.SfidOutOfRange sfid)

-- a flow's modem, its SFID and its SID, each that the row does not have
abbrev pub row_faults_of_flow : RowFields → (ℕ × Flow) → List StateFault
row_faults_of_flow row entry =
    option_to_list (modem_fault row entry.1.modem)
    ++ option_to_list (sfid_fault row entry.0)
    ++ option_to_list (sid_fault row entry.0 entry.1.sid)

-- the modem of a cached response, if the row does not list it
abbrev pub row_faults_of_response : RowFields → KeptEntry → List StateFault
row_faults_of_response row entry = option_to_list (modem_fault row entry.modem)

-- the modem of a message in the inbox, if the row does not list it
abbrev pub row_faults_of_message : RowFields → Arrival → List StateFault
row_faults_of_message row arrival = option_to_list (modem_fault row arrival.modem)

-- what the flows have committed is more than the row's quota; not judged where there are more flows than the row allows
abbrev pub quota_fault : UnitSizes → RowFields → List (ℕ × Flow) → Option StateFault
quota_fault units row flows = if nat_lt row.flows (length flows) then None else
    fault_where (nat_lt row.elements (committed_elements units flows)) (faults.OverElements (committed_elements units flows))

-- the faults that a state has under a row: of its counts, then of each flow in order, then of each cached response, then of each message,
-- then of its quota of elements
abbrev pub row_faults : UnitSizes → RowFields → OperatorState → List StateFault
row_faults units row state =
    count_faults row state
    ++ flat_map (row_faults_of_flow row) state.flows
    ++ flat_map (row_faults_of_response row) state.kept
    ++ flat_map (row_faults_of_message row) state.inbox
    ++ option_to_list (quota_fault units row state.flows)
