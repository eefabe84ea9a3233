-- The states of a live core's operators, as they are saved (implementation-specific).
use Rattle.std.specs.Prelude.{◌≡◌, ⊤, ℕ, List, map}
use Rattle.operator_model.specs.State.{OperatorState}
use Rattle.operator_model.specs.Replay.{BookView}
use Rattle.run_model.specs.IsStateAfter.{CoreView}
use Rattle.snapshot_format.specs.declared.saved.SavedOperator.{SavedOperator}
use Rattle.snapshot_format.specs.declared.saved.Snapshot.{Snapshot}
use Rattle.snapshot_format.specs.States.{state_of, states_of, saved_state}
use Rattle.plant_core.specs.live.Resting.{Rests, IsRestFault}
use Rattle.plant_restart.specs.declared.fault.SaveFault.{SaveFault}
use Rattle.plant_restart.specs.declared.fault.SaveFault.TheVariants.{Unfinished, NoMemory}

-- the state in which an operator's machine stands, under the operator's name
abbrev pub state_of_book : BookView → List ℕ × OperatorState
state_of_book book = (book.row.name, book.state)

-- the states of all operators, in the order of the rows
abbrev pub states_by_name : CoreView → List (List ℕ × OperatorState)
states_by_name live = map state_of_book live.books

-- what is saved of an operator
abbrev pub saved_book : BookView → SavedOperator
saved_book book = saved_state book.row.name book.state

-- the state that is saved of an operator, before this frame, under the operator's name
abbrev pub saved_by_name : ℕ → SavedOperator → List ℕ × OperatorState
saved_by_name frame saved = (saved.name, state_of frame saved)

-- a snapshot of a core with the text of its plant file: the core rests before the snapshot's frame, and the snapshot holds the state of
-- each operator's machine, in the order of the rows
pub record IsCoreSnapshot (live : CoreView) (text : List ℕ) (saved : Snapshot) : Type 0 where
  pub plant_is : saved.plant ≡ text
  pub rests : Rests live saved.frame
  pub states_are : states_of saved ≡ states_by_name live

-- what each refusal of a snapshot says
abbrev pub IsSaveFault : CoreView → SaveFault → Type 0
IsSaveFault live (Unfinished why) = IsRestFault live why
IsSaveFault live NoMemory = ⊤
