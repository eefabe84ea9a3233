-- What is saved of a state is the state.
use Rattle.std.proofs.Common.{◌≡◌, ℕ, List, [], ◌∷◌, map, refl, ap}
use Rattle.flow_table.specs.declared.flow.Flow.{Flow}
use Rattle.operator_model.specs.State.{OperatorState}
use Rattle.snapshot_format.specs.States.{sfid_with_flow, saved_flow, state_of, saved_state}

flows_are : (flows : List (ℕ × Flow)) → map sfid_with_flow (map saved_flow flows) ≡ flows
flows_are [] = refl
flows_are (flow ∷ flows) = ap (λ (more : List (ℕ × Flow)). flow ∷ more) (flows_are flows)

pub state_is : (name : List ℕ) (state : OperatorState) → state_of state.frame (saved_state name state) ≡ state
state_is name state = ap (λ (flows : List (ℕ × Flow)). record state { flows = flows }) (flows_are state.flows)
