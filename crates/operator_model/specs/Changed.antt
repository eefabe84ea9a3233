-- An operator of which one thing differs (implementation-specific).
use Rattle.std.specs.Prelude.{ℕ, List}
use Rattle.flow_table.specs.declared.flow.Flow.{Flow}
use Rattle.flow_table.specs.Moved.{change_at}
use Rattle.operator_model.specs.declared.heard.Arrival.{Arrival}
use Rattle.operator_model.specs.State.{Operator}

-- an operator with these flows
abbrev pub with_flows : Operator → List (ℕ × Flow) → Operator
with_flows op flows = record op { state = record op.state { flows = flows } }

-- the flow of an SFID is changed so, if there is one
abbrev pub with_change : Operator → ℕ → (Flow → Flow) → Operator
with_change op sfid change = with_flows op (change_at sfid change op.state.flows)

-- an operator with this inbox
abbrev pub with_inbox : Operator → List Arrival → Operator
with_inbox op inbox = record op { state = record op.state { inbox = inbox } }
