-- A plant that starts in given states of its operators, and why it does not (implementation-specific).
use Rattle.std.specs.Prelude.{◌≡◌, ◌≢◌, ◌≤◌, ⊤, ℕ, List, [], length, map, slice_get, Some, All, Contains, IfSome}
use Rattle.plant.specs.declared.consts.ConstsFields.{ConstsFields}
use Rattle.plant.specs.declared.operator_row.RowFields.{RowFields}
use Rattle.plant.specs.declared.plant.PlantFields.{PlantFields}
use Rattle.operator_model.specs.State.{OperatorState}
use Rattle.operator_book.specs.declared.state_fault.StateFault.{StateFault}
use Rattle.operator_book.specs.Resuming.{IsStateUnder, state_fault}
use Rattle.map_assembly.specs.Plan.{AreSlices}
use Rattle.run_model.specs.Places.{AtEachOperator}
use Rattle.run_model.specs.IsStateAfter.{CoreView}
use Rattle.run_model.specs.Opened.{started_core}
use Rattle.plant_core.specs.declared.live.resume_fault.ResumeFault.TheVariants as resume
use Rattle.plant_core.specs.live.Resumed.{GoTogether, slices_now, slices_next, IsResumeFault}
use Rattle.plant_core.specs.live.After.{IsAfterFrom}
use Rattle.plant_restart.specs.declared.fault.RestartFault.{RestartFault}
use Rattle.plant_restart.specs.declared.fault.RestartFault.TheVariants.{State, Core, NoMemory}
use Rattle.plant_restart.specs.declared.fault.RestoreFault.{RestoreFault}
use Rattle.plant_restart.specs.declared.fault.RestoreFault.TheVariants.{UnknownOperator, Restart}
use Rattle.plant_restart.specs.ByName.{state_under, operators_by_name, start_by_name}

-- a live core of this plant at this frame: each operator is in the state under its name, and without one as it is opened before that
-- frame; no frame waits, and no step is done since
pub record IsRestarted (plant : PlantFields) (frame : ℕ) (states : List (List ℕ × OperatorState)) (live : CoreView) : Type 0 where
  pub is_started : live ≡ started_core plant (start_by_name plant frame states)
  pub reached : IsAfterFrom plant (start_by_name plant frame states) [] [] live

-- ---- why it does not start

-- a state is not one of an operator's row, of which this is the first reason
pub record IsWrongState (consts : ConstsFields) (row : RowFields) (state : OperatorState) (why : StateFault) : Type 0 where
  pub first_fault : state_fault consts row state ≡ Some why
  pub stands_not : ¬ IsStateUnder consts row state

-- what a fault says of the state of the operator at this place; out of memory says nothing of it
abbrev pub IsFaultOfState : ConstsFields → ℕ → RowFields → OperatorState → RestartFault → Type 0
IsFaultOfState consts op row state (State at why) = (at ≡ op) × IsWrongState consts row state why
IsFaultOfState consts op row state (Core why) = ⊥
IsFaultOfState consts op row state NoMemory = ⊤

-- the state under the name of an operator is not one of its row
pub record IsWrongUnder (consts : ConstsFields) (states : List (List ℕ × OperatorState)) (row : RowFields) (why : StateFault) : Type 0 where
  pub state : OperatorState
  pub state_is : state_under states row.name ≡ Some state
  pub wrong : IsWrongState consts row state why

-- that of the operator at this place
pub record IsRefusedState (consts : ConstsFields) (rows : List RowFields) (states : List (List ℕ × OperatorState)) (op : ℕ) (why : StateFault) : Type 0 where
  pub row : RowFields
  pub row_is : slice_get rows op ≡ Some row
  pub wrong : IsWrongUnder consts states row why

-- what a fault says of the state under the name of a row's operator; out of memory says nothing of it
abbrev pub IsRowFault : ConstsFields → List (List ℕ × OperatorState) → ℕ → RowFields → RestartFault → Type 0
IsRowFault consts states op row (State at why) = (at ≡ op) × IsWrongUnder consts states row why
IsRowFault consts states op row (Core why) = ⊥
IsRowFault consts states op row NoMemory = ⊤

-- what a fault says of the states of the operators of these rows; out of memory says nothing of them
abbrev pub IsRowsFault : ConstsFields → List (List ℕ × OperatorState) → List RowFields → RestartFault → Type 0
IsRowsFault consts states rows (State op why) = IsRefusedState consts rows states op why
IsRowsFault consts states rows (Core why) = ⊥
IsRowsFault consts states rows NoMemory = ⊤

-- what each refusal of a restart says
abbrev pub IsRestartFault : PlantFields → ℕ → List (List ℕ × OperatorState) → RestartFault → Type 0
IsRestartFault plant frame states (State op why) = IsRefusedState plant.consts plant.rows states op why
IsRestartFault plant frame states (Core why) = IsResumeFault plant frame (operators_by_name plant frame states) why × (why ≢ resume.NoMemory)
IsRestartFault plant frame states NoMemory = ⊤

-- each state under an operator's name is one of its row, and the operators go together: all are at the frame, which is not before the
-- plant's first one, their next slices wait for one frame, and their slices are valid
pub record CanRestart (plant : PlantFields) (frame : ℕ) (states : List (List ℕ × OperatorState)) : Type 0 where
  pub stand : AtEachOperator plant (λ op row. IfSome (state_under states row.name) (λ state. IsStateUnder plant.consts row state))
  pub go_together : GoTogether frame (operators_by_name plant frame states)
  pub has_begun : plant.consts.channel.first_frame ≤ frame
  pub slices : AreSlices plant.consts.channel (length plant.rows) (slices_now (operators_by_name plant frame states))
  pub next_slices : AreSlices plant.consts.channel (length plant.rows) (slices_next (operators_by_name plant frame states))

-- ---- why a snapshot is not restored

-- the names under which states are given
abbrev pub names_of : List (List ℕ × OperatorState) → List (List ℕ)
names_of states = map (λ named. named.0) states

-- no operator of these rows has this name
abbrev pub HasNoRow : List RowFields → List ℕ → Type 0
HasNoRow rows name = All (λ row. row.name ≢ name) rows

-- each name is that of an operator of these rows
abbrev pub HaveRows : List RowFields → List (List ℕ) → Type 0
HaveRows rows names = All (λ name. ¬ HasNoRow rows name) names

-- what each refusal of a restore says: a saved operator has no row, or the operators do not start in their states
abbrev pub IsRestoreFault : PlantFields → ℕ → List (List ℕ × OperatorState) → RestoreFault → Type 0
IsRestoreFault plant frame states (UnknownOperator name) = Contains (names_of states) name × HasNoRow plant.rows name
IsRestoreFault plant frame states (Restart why) = HaveRows plant.rows (names_of states) × IsRestartFault plant frame states why
