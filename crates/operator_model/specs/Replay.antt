-- A history, and the state that it is the replay of (implementation-specific).
use Rattle.std.specs.Prelude.{◌≡◌, List, [], ◌∷◌, ◌++◌, map}
use Rattle.plant.specs.declared.consts.ConstsFields.{ConstsFields}
use Rattle.plant.specs.declared.operator_row.RowFields.{RowFields}
use Rattle.operator_model.specs.declared.action.Action.{Action}
use Rattle.operator_model.specs.declared.action.Entry.{Entry}
use Rattle.operator_model.specs.State.{OperatorState, Operator, operator, opened_state}
use Rattle.operator_model.specs.Machine.{own_step, after_step, own_run, IsAllowed}

-- the actions of a history
abbrev pub actions_of : List Entry → List Action
actions_of history = map (λ entry. entry.action) history

-- each entry was allowed at its place in the run, and its outputs are the run's
abbrev pub AreTold : Operator → List Entry → Type 0
AreTold o [] = Unit {0}
AreTold o (entry ∷ history) =
    IsAllowed o entry.action
    × (entry.outputs ≡ (own_step o entry.action).outputs)
    × AreTold (after_step o entry.action) history

-- the state is the run of a history's actions from this first state: each action is allowed at its place, and each entry's outputs are the
-- run's
pub record IsReplayFrom (consts : ConstsFields) (row : RowFields) (first : OperatorState) (history : List Entry) (state : OperatorState) : Type 0 where
  pub state_is : state ≡ (own_run (operator consts row first) (actions_of history)).state
  pub told : AreTold (operator consts row first) history

-- the state is the replay of the history from the opened state
abbrev pub IsReplay : ConstsFields → RowFields → List Entry → OperatorState → Type 0
IsReplay consts row history state = IsReplayFrom consts row (opened_state consts row) history state

-- what contracts see of a book
pub record BookView : Type 0 where
  pub row : RowFields
  pub consts : ConstsFields
  pub state : OperatorState
  pub history : List Entry

-- the operator whose book it is, as it is now
abbrev pub operator_of_book : BookView → Operator
operator_of_book b = operator b.consts b.row b.state

-- a book with nothing done
abbrev pub opened_book : ConstsFields → RowFields → BookView
opened_book consts row = record { row = row; consts = consts; state = opened_state consts row; history = [] }

-- the state of a book is the replay of its history
abbrev pub IsReplayed : BookView → Type 0
IsReplayed b = IsReplay b.consts b.row b.history b.state

-- all that an action changes of a book, in one equation: the state by the machine, and one more entry
abbrev pub book_after_action : BookView → Action → BookView
book_after_action b action = record {
  row = b.row;
  consts = b.consts;
  state = (own_step (operator_of_book b) action).state;
  history = b.history ++ record { action = action; outputs = (own_step (operator_of_book b) action).outputs } ∷ [];
}
