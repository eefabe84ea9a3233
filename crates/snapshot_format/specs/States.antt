-- The states of operators' machines that a snapshot holds (implementation-specific).
use Rattle.std.specs.Prelude.{ℕ, List, map}
use Rattle.flow_table.specs.declared.flow.Flow.{Flow}
use Rattle.operator_model.specs.State.{OperatorState}
use Rattle.snapshot_format.specs.declared.saved.SavedFlow.{SavedFlow}
use Rattle.snapshot_format.specs.declared.saved.SavedOperator.{SavedOperator}
use Rattle.snapshot_format.specs.declared.saved.Snapshot.{Snapshot}

-- a flow under its identifier
abbrev pub sfid_with_flow : SavedFlow → ℕ × Flow
sfid_with_flow saved = (saved.sfid, saved.flow)

-- the state of an operator's machine before this frame
abbrev pub state_of : ℕ → SavedOperator → OperatorState
state_of frame saved = record {
  flows = map sfid_with_flow saved.flows;
  kept = saved.kept;
  inbox = saved.inbox;
  frame = frame;
  share = saved.share;
  next = saved.next;
}

-- the state of each operator's machine, under the operator's name
abbrev pub states_of : Snapshot → List (List ℕ × OperatorState)
states_of saved = map (λ operator. (operator.name, state_of saved.frame operator)) saved.operators

-- ---- what is saved of a state

-- the flow of an SFID, as it is saved
abbrev pub saved_flow : ℕ × Flow → SavedFlow
saved_flow entry = record { sfid = entry.0; flow = entry.1 }

-- the state of an operator's machine, as it is saved under the operator's name; the frame number is the snapshot's
abbrev pub saved_state : List ℕ → OperatorState → SavedOperator
saved_state name state = record {
  name = name;
  share = state.share;
  next = state.next;
  flows = map saved_flow state.flows;
  kept = state.kept;
  inbox = state.inbox;
}
