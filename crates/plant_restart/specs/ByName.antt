-- The operators of a plant that go on in states that are given by their names (implementation-specific).
use Rattle.std.specs.Prelude.{ℕ, List, [], ◌∷◌, map, Option, Some, None, if◌then◌else◌}
use Rattle.std.specs.Str.{bytes_eq}
use Rattle.plant.specs.declared.consts.ConstsFields.{ConstsFields}
use Rattle.plant.specs.declared.operator_row.RowFields.{RowFields}
use Rattle.plant.specs.declared.plant.PlantFields.{PlantFields}
use Rattle.operator_model.specs.State.{OperatorState, Operator, operator, opened_before}
use Rattle.run_model.specs.Starts.{Start}
use Rattle.plant_core.specs.live.Resumed.{start_with}

-- the state under this name, if one is given
abbrev pub state_under : List (List ℕ × OperatorState) → List ℕ → Option OperatorState
state_under [] name = None
state_under (named ∷ states) name = if bytes_eq named.0 name then Some named.1 else state_under states name

-- an operator goes on in the state under its name, and without one it is opened before this frame
abbrev pub state_or_opened : ℕ → ConstsFields → RowFields → Option OperatorState → OperatorState
state_or_opened frame consts row None = opened_before frame consts row
state_or_opened frame consts row (Some state) = state

-- the operator of a row, in the state under its name, and without one as it is opened before this frame
abbrev pub operator_by_name : ConstsFields → ℕ → List (List ℕ × OperatorState) → RowFields → Operator
operator_by_name consts frame states row = operator consts row (state_or_opened frame consts row (state_under states row.name))

-- the operators of a plant's rows in their order, each in the state under its name, and without one as it is opened before this frame
abbrev pub operators_by_name : PlantFields → ℕ → List (List ℕ × OperatorState) → List Operator
operators_by_name plant frame states = map (operator_by_name plant.consts frame states) plant.rows

-- where a plant starts whose operators go on so, at this frame
abbrev pub start_by_name : PlantFields → ℕ → List (List ℕ × OperatorState) → Start
start_by_name plant frame states = start_with plant frame (operators_by_name plant frame states)
