-- A service that goes on in another process, from the snapshot that the line `K` was answered (implementation-specific).
use Rattle.std.specs.Prelude.{◌≡◌, ◌≢◌, ◌<◌, ◌≤◌, ◌^◌, ℕ, ◌+◌, List, [], ◌∷◌, ◌++◌, length, map, count_by, slice_get, true, false, All, Option, Some, Ok, IfSome, codes}
use Rattle.std.specs.List.{AllByRecursion}
use Rattle.std.specs.Str.{is_utf8}
use Rattle.toml.specs.Parse.{parse_document}
use Rattle.plant.specs.declared.operator_row.RowFields.{RowFields}
use Rattle.plant.specs.declared.plant.PlantFields.{PlantFields}
use Rattle.slice_table.specs.ReadPlant.{text_plant}
use Rattle.transactions.specs.Keeping.{OneEach}
use Rattle.plant.specs.declared.consts.ConstsFields.{ConstsFields}
use Rattle.operator_model.specs.declared.action.Action.{Action}
use Rattle.operator_model.specs.State.{OperatorState, operator}
use Rattle.operator_model.specs.Machine.{own_run}
use Rattle.operator_model.specs.Frames.{is_tick}
use Rattle.operator_model.specs.Slices.{MayRun}
use Rattle.operator_model.specs.Replay.{BookView}
use Rattle.frame_numbers.specs.Renumbered.{action_moved, IsSameRun}
use Rattle.operator_book.specs.Resuming.{IsListedIn}
use Rattle.run_model.specs.IsStateAfter.{CoreView}
use Rattle.run_model.specs.Places.{AtEachOperator}
use Rattle.run_model.specs.Changing.{RunSoFar, state_now, IsPlantChange}
use Rattle.plant_core.specs.live.Resting.{Rests}
use Rattle.line_service.specs.script.Input.{plant_text}
use Rattle.line_service.specs.script.Lines.{lines_of}
use Rattle.snapshot_format.specs.declared.saved.Snapshot.{Snapshot}
use Rattle.snapshot_format.specs.States.{states_of, saved_flow}
use Rattle.snapshot_format.specs.Saved.{IsSavedFlow, IsSavedEntry, IsSavedArrival}
use Rattle.plant_restart.specs.Saving.{saved_book}
use Rattle.plant_restart.specs.Restarted.{names_of, HaveRows, CanRestart}
use Rattle.state_service.specs.declared.resumed.begin_fault.BeginFault.{BeginFault}
use Rattle.state_service.specs.declared.resumed.begin_fault.BeginFault.TheVariants.{NoMemory}
use Rattle.state_service.specs.resumed.Beginning.{front_text, lines_after, is_snapshot_head, IsBeginning, IsBeginFault}
use Rattle.state_service.specs.resumed.Items.{InService, IsRunSoFarOf, ItemAnswer, core_snapshot, SnapshotIsGiven, IsSnapshotOf, IsFrameAnswer, IsItemAnswer, AreItemAnswers, IsServedFrom}
use Rattle.state_service.specs.resumed.Resumed.{resumed_service, IsResumedService}

-- ---- the plant file in force

-- what reads a text up to a line of three dashes takes this text, where such a line is after it
abbrev pub IsReadWhole : List ℕ → Type 0
IsReadWhole file = plant_text (file ++ (codes "---" ++ 10 ∷ [])) ≡ file

-- the text of the plant file in force is UTF-8, says the run's plant, and is read whole
pub record IsFileInForce (now : InService) : Type 0 where
  pub is_text : is_utf8 now.file ≡ true
  pub says : text_plant (parse_document now.file) ≡ Ok now.run.plant
  pub whole : IsReadWhole now.file

-- A service that begins with a plant file, and after it lines, has that file in force. A snapshot that no service wrote may hold a
-- file that is not read whole: one with a line of three dashes within a string, and no line feed at its end. No clause of a service
-- that has begun says that the file is UTF-8; one that is not is refused (`NotText`).
abbrev pub BeginsInForce : Type 0
BeginsInForce = (input : List ℕ) (plant : PlantFields) (saved : Snapshot) → IsBeginning (front_text input) plant saved → lines_after input ≢ [] → is_utf8 saved.plant ≡ true
    → (is_snapshot_head (front_text input) ≡ true → IsReadWhole saved.plant) → IsFileInForce (resumed_service plant saved)

-- it is so after each answer
abbrev pub StaysInForce : Type 0
StaysInForce = (first : InService) (number : ℕ) (input : List ℕ) (answers : List ItemAnswer) → IsFileInForce first → AreItemAnswers first number (lines_of input) answers
    → All (λ answer. IsFileInForce answer.next) answers

-- ---- what types keep

-- What the types of a machine keep of a state, and its soundness does not say. No clause of a run says it either: a step of the model
-- may be the arrival of a message with a byte 256, and no process does such a step.
pub record FitsTypes (state : OperatorState) : Type 0 where
  pub frame : state.frame < 2 ^ 32
  pub next : IfSome state.next (λ next. next.from < 2 ^ 32)
  pub flows : AllByRecursion IsSavedFlow (map saved_flow state.flows)
  pub one_each : OneEach state.kept
  pub responses : AllByRecursion IsSavedEntry state.kept
  pub messages : AllByRecursion IsSavedArrival state.inbox

-- each book of a core is in a state that its types can hold
abbrev pub HaveTypedStates : CoreView → Type 0
HaveTypedStates live = (i : ℕ) (book : BookView) → slice_get live.books i ≡ Some book → FitsTypes book.state

-- ---- whose all of it is

-- what an operator's machine has is of modems that its row lists
pub record IsOfItsModems (row : RowFields) (state : OperatorState) : Type 0 where
  pub flows : All (λ entry. IsListedIn row entry.1.modem) state.flows
  pub responses : All (λ entry. IsListedIn row entry.modem) state.kept
  pub messages : All (λ arrival. IsListedIn row arrival.modem) state.inbox

-- where a run starts, all that an operator's machine has is of modems that its row lists
abbrev pub StartsOfItsModems : RunSoFar → Type 0
StartsOfItsModems run = AtEachOperator run.plant (λ i row. IsOfItsModems row (run.start.state row))

-- a service that begins with a plant file starts so
abbrev pub BeginsOfItsModems : Type 0
BeginsOfItsModems = (text : List ℕ) (plant : PlantFields) (saved : Snapshot) → is_snapshot_head text ≡ false → IsBeginning text plant saved → StartsOfItsModems (resumed_service plant saved).run

-- An answer that does not change the plant keeps it. A change that leaves out the modem of a flow is refused, and no clause of a changed
-- plant says so.
abbrev pub StaysOfItsModems : Type 0
StaysOfItsModems = (old : InService) (number : ℕ) (line : List ℕ) (lines : List (List ℕ)) (answer : ItemAnswer) → IsItemAnswer old number line lines answer → answer.changes ≡ false
    → StartsOfItsModems old.run → StartsOfItsModems answer.next.run

-- The line `N` keeps it too.
abbrev pub NumbersKeepModems : Type 0
NumbersKeepModems = (old : InService) (line : List ℕ) (answer : ItemAnswer) → IsFrameAnswer old line answer → StartsOfItsModems old.run → StartsOfItsModems answer.next.run

-- ---- other frame numbers

-- what may be done in the one state, before the frame `from`, may be done in the other one, before the frame `to`, and it is the same
pub record IsSameUnder (consts : ConstsFields) (row : RowFields) (from to : ℕ) (a b : OperatorState) (actions : List Action) : Type 0 where
  pub may : MayRun (operator consts row b) (map (action_moved from to) actions)
  pub same : IsSameRun consts.units from to (own_run (operator consts row a) actions) (own_run (operator consts row b) (map (action_moved from to) actions))

-- An operator does the same after a line `N` as it would have done without it. What it might have done then it may do now, as long as
-- there are numbers for its frames: it gives the same outputs, of which only the frame numbers are others.
abbrev pub NumbersAreNotNoticed : Type 0
NumbersAreNotNoticed = (old : InService) (line : List ℕ) (answer : ItemAnswer) (is : IsFrameAnswer old line answer) (i : ℕ) (row : RowFields) (actions : List Action)
    → slice_get old.run.plant.rows i ≡ Some row → MayRun (operator old.run.plant.consts row (state_now old.run i row)) actions
    → answer.next.run.start.frame + count_by is_tick actions ≤ 4294967295
    → IsSameUnder old.run.plant.consts row is.changed.from answer.next.run.start.frame (state_now old.run i row) (answer.next.run.start.state row) actions

-- ---- the snapshot of a live core

-- of which `core_snapshot` is the text
abbrev pub snapshot_at : List ℕ → CoreView → ℕ → Snapshot
snapshot_at file live frame = record { plant = file; frame = frame; operators = map saved_book live.books }

-- a run led to a live core that rests before this frame, and the plant file is in force
pub record IsReadyToSave (old : InService) (live : CoreView) (frame : ℕ) : Type 0 where
  pub leads : IsRunSoFarOf old.run live
  pub in_force : IsFileInForce old
  pub rests : Rests live frame

-- so it is where the line `K` is answered by a snapshot, and the answer is `core_snapshot`
abbrev pub AnsweredIsReady : Type 0
AnsweredIsReady = (old : InService) (number : ℕ) (line : List ℕ) (answer : ItemAnswer) (is : IsSnapshotOf old number line answer) (given : SnapshotIsGiven old.file is.live answer.text) → IsFileInForce old
    → IsReadyToSave old is.live given.frame × (answer.text ≡ core_snapshot old.file is.live given.frame)

-- what is before the lines of this input is this text, and it says this plant and this snapshot, and no others
pub record BeginsWith (text lines : List ℕ) (plant : PlantFields) (saved : Snapshot) (input : List ℕ) : Type 0 where
  pub text_is : front_text input ≡ text
  pub lines_are : lines_after input ≡ lines
  pub begins : IsBeginning text plant saved
  pub alone : (p : PlantFields) (s : Snapshot) → IsBeginning text p s → (p ≡ plant) × (s ≡ saved)

-- what the line `K` is answered, and a line of three dashes, begin a service. The format counts bytes and lines in 32 bits.
abbrev pub SnapshotBeginsService : Type 0
SnapshotBeginsService = (old : InService) (live : CoreView) (frame : ℕ) (lines : List ℕ) → IsReadyToSave old live frame → HaveTypedStates live
    → length (core_snapshot old.file live frame) < 2 ^ 32
    → BeginsWith (core_snapshot old.file live frame) lines live.plant (snapshot_at old.file live frame) (core_snapshot old.file live frame ++ (codes "---" ++ 10 ∷ lines))

-- ---- the states are restored

-- each saved operator has a row, and all can start in their saved states
pub record IsRestorable (plant : PlantFields) (saved : Snapshot) : Type 0 where
  pub have_rows : HaveRows plant.rows (names_of (states_of saved))
  pub can : CanRestart plant saved.frame (states_of saved)

-- the states that the line `K` was answered with can be restored
abbrev pub SavedStatesAreRestored : Type 0
SavedStatesAreRestored = (old : InService) (live : CoreView) (frame : ℕ) → IsReadyToSave old live frame → HaveTypedStates live → StartsOfItsModems old.run
    → IsRestorable live.plant (snapshot_at old.file live frame)

-- so a service refuses what the line `K` is answered for one reason alone
abbrev pub OnlyMemoryRefuses : Type 0
OnlyMemoryRefuses = (old : InService) (live : CoreView) (frame : ℕ) → IsReadyToSave old live frame → HaveTypedStates live → StartsOfItsModems old.run
    → length (core_snapshot old.file live frame) < 2 ^ 32 → (fault : BeginFault) → IsBeginFault (core_snapshot old.file live frame) fault → fault ≡ NoMemory

-- ---- the restart is a change of plant

-- to the same plant
abbrev pub RestartIsChange : Type 0
RestartIsChange = (old : InService) (live : CoreView) (frame : ℕ) → IsReadyToSave old live frame → IsPlantChange old.run (resumed_service live.plant (snapshot_at old.file live frame)).run

-- the same file is in force
abbrev pub FileGoesOn : Type 0
FileGoesOn = (old : InService) (live : CoreView) (frame : ℕ) → IsReadyToSave old live frame → IsFileInForce (resumed_service live.plant (snapshot_at old.file live frame))

-- and its states are of their rows' modems again
abbrev pub ModemsGoOn : Type 0
ModemsGoOn = (old : InService) (live : CoreView) (frame : ℕ) → IsReadyToSave old live frame → StartsOfItsModems old.run
    → StartsOfItsModems (resumed_service live.plant (snapshot_at old.file live frame)).run

-- a service that begins with what the line `K` is answered is served from there
abbrev pub SnapshotIsServed : Type 0
SnapshotIsServed = (old : InService) (live : CoreView) (frame : ℕ) (lines : List ℕ) (before after : Option (List ℕ)) → IsReadyToSave old live frame → HaveTypedStates live
    → length (core_snapshot old.file live frame) < 2 ^ 32 → IsResumedService (core_snapshot old.file live frame) lines before after
    → IsServedFrom (resumed_service live.plant (snapshot_at old.file live frame)) lines before after
