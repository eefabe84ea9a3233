-- All refusals of the states in which the operators of a plant are to go on (implementation-specific).
use Rattle.std.specs.Prelude.{◌+◌, ◌++◌, ℕ, List, [], ◌∷◌, map, Option, Some, None}
use Rattle.plant.specs.declared.consts.ConstsFields.{ConstsFields}
use Rattle.plant.specs.declared.operator_row.RowFields.{RowFields}
use Rattle.plant.specs.declared.plant.PlantFields.{PlantFields}
use Rattle.operator_model.specs.State.{OperatorState}
use Rattle.operator_book.specs.declared.state_fault.StateFault.{StateFault}
use Rattle.operator_book.specs.RowFaults.{row_faults}
use Rattle.plant_restart.specs.declared.refusing.RefusedState.{RefusedState}
use Rattle.plant_restart.specs.ByName.{state_under}

-- this fault of the state of the operator at this place
abbrev pub refused_state : ℕ → StateFault → RefusedState
refused_state op why = record { op = op; why = why }

-- each fault of a state under the row at this place
abbrev pub refused_under : ConstsFields → ℕ → RowFields → Option OperatorState → List RefusedState
refused_under consts op row None = []
refused_under consts op row (Some state) = map (refused_state op) (row_faults consts.units row state)

-- those of the state under each row's name, of rows from this place on
abbrev pub refused_from : ConstsFields → List (List ℕ × OperatorState) → ℕ → List RowFields → List RefusedState
refused_from consts states op [] = []
refused_from consts states op (row ∷ rows) = refused_under consts op row (state_under states row.name) ++ refused_from consts states (op + 1) rows

-- for each row of a plant, the faults that the state under its name has (`row_faults`), each with the place of the row
abbrev pub refused_states : PlantFields → List (List ℕ × OperatorState) → List RefusedState
refused_states plant states = refused_from plant.consts states 0 plant.rows
