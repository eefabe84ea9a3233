-- What a call on an operator's cell is refused for (implementation-specific).
use Rattle.std.specs.Prelude.{◌≡◌, ℕ}
use Rattle.operator_model.specs.declared.action.Action.{Action}
use Rattle.operator_book.specs.declared.book.BookFault.TheVariants.{NoMemory}
use Rattle.plant_workers.specs.declared.cell_state.cell_fault.CellFault.{CellFault}
use Rattle.plant_workers.specs.declared.cell_state.cell_fault.CellFault.TheVariants.{Book, Passed, Stopped, Closed}
use Rattle.plant_workers.specs.cell_state.Refusing.{IsActionFault}

-- an action that is done at once: only the book refuses it, for a fault of this action
abbrev pub IsOfBook : Action → CellFault → Type 0
IsOfBook action (Book fault) = IsActionFault action fault
IsOfBook action fault = ⊥

-- a turn of this operator at this place: the book refuses the action, or the turn names the operator and the place
abbrev pub IsOfTurn : ℕ → ℕ → Action → CellFault → Type 0
IsOfTurn op index action (Book fault) = IsActionFault action fault
IsOfTurn op index action (Passed operator place) = (operator ≡ op) × (place ≡ index)
IsOfTurn op index action (Stopped operator) = operator ≡ op
IsOfTurn op index action Closed = ⊥

-- a frame of this operator that is to be taken
abbrev pub IsOfTaking : ℕ → CellFault → Type 0
IsOfTaking op (Book NoMemory) = Unit {0}
IsOfTaking op (Stopped operator) = operator ≡ op
IsOfTaking op fault = ⊥
