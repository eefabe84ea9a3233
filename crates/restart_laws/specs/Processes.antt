-- A service in several processes, one after the other, as one service (implementation-specific).
use Rattle.std.specs.Prelude.{◌≡◌, ◌≢◌, false, true, ℕ, zero, suc, List, [], ◌∷◌, ◌++◌, Option}
use Rattle.std.specs.Str.{is_utf8}
use Rattle.plant.specs.declared.operator_row.RowFields.{RowFields}
use Rattle.plant.specs.declared.plant.PlantFields.{PlantFields}
use Rattle.run_model.specs.IsStateAfter.{CoreView}
use Rattle.run_model.specs.Changing.{RunSoFar, AreChanges, KeepsProvisioning, periods}
use Rattle.run_model.specs.Periods.{Period, ArePeriodsOf, steps_over, NoticesAlike}
use Rattle.plant_core.specs.live.Resting.{Rests}
use Rattle.snapshot_format.specs.declared.saved.Snapshot.{Snapshot}
use Rattle.state_service.specs.resumed.Beginning.{front_text, lines_after, is_snapshot_head, IsBeginning}
use Rattle.state_service.specs.resumed.Items.{InService, IsRunSoFarOf, ItemAnswer, IsServedFrom, first_period, later_periods, KeepNumbers}
use Rattle.state_service.specs.resumed.Resumed.{resumed_service}
use Rattle.restart_laws.specs.Restarting.{IsFileInForce, snapshot_at}

-- ---- processes

-- the service after these answers
abbrev pub after_answers : InService → List ItemAnswer → InService
after_answers first [] = first
after_answers first (answer ∷ more) = after_answers answer.next more

-- a process that answers all its lines from here on, and gives frames no other numbers
pub record IsProcess (first : InService) : Type 0 where
  pub input : List ℕ
  pub before : Option (List ℕ)
  pub after : Option (List ℕ)
  pub served : IsServedFrom first input before after
  pub keeps : KeepNumbers served.answers

-- in the end its core rests before a frame: so it is where its input ends with the line `K`, and this is answered by a snapshot
pub record EndsAtRest (first : InService) (process : IsProcess first) : Type 0 where
  pub live : CoreView
  pub led_to : IsRunSoFarOf (after_answers first process.served.answers).run live
  pub frame : ℕ
  pub rests : Rests live frame

-- where the next process begins that goes on from that snapshot (`snapshot_begins_a_service`)
abbrev pub next_service : (first : InService) (process : IsProcess first) → EndsAtRest first process → InService
next_service first process end = resumed_service end.live.plant (snapshot_at (after_answers first process.served.answers).file end.live end.frame)

-- a process, and after it others with so many restarts: each but the last ends with a core at rest, and the next one goes on from its
-- snapshot
abbrev pub AreProcesses : ℕ → InService → Type 0
AreProcesses zero first = IsProcess first
AreProcesses (suc restarts) first = (process : IsProcess first) × (end : EndsAtRest first process) × AreProcesses restarts (next_service first process end)

-- ---- the periods of all of them

-- the first period of all processes
abbrev pub first_of_all : (restarts : ℕ) (first : InService) → AreProcesses restarts first → RunSoFar
first_of_all zero first process = first_period first.run process.served.answers
first_of_all (suc restarts) first all = first_period first.run all.0.served.answers

-- the periods after it, of all processes in order
abbrev pub later_of_all : (restarts : ℕ) (first : InService) → AreProcesses restarts first → List RunSoFar
later_of_all zero first process = later_periods first.run process.served.answers
later_of_all (suc restarts) first all =
    later_periods first.run all.0.served.answers ++ first_of_all restarts (next_service first all.0 all.1) all.2 ∷ later_of_all restarts (next_service first all.0 all.1) all.2

-- the periods of all processes, in order
abbrev pub all_periods : (restarts : ℕ) (first : InService) → AreProcesses restarts first → List RunSoFar
all_periods restarts first all = first_of_all restarts first all ∷ later_of_all restarts first all

-- ---- the laws

-- the first process begins after some run, and its plant file is in force
pub record IsBegun (first : InService) : Type 0 where
  pub live : CoreView
  pub leads : IsRunSoFarOf first.run live
  pub in_force : IsFileInForce first

-- a process that begins with a plant file that is UTF-8, and lines after it, is one
abbrev pub PlantFileBegins : Type 0
PlantFileBegins = (input : List ℕ) (plant : PlantFields) (saved : Snapshot) → IsBeginning (front_text input) plant saved → is_snapshot_head (front_text input) ≡ false → lines_after input ≢ []
    → is_utf8 saved.plant ≡ true → IsBegun (resumed_service plant saved)

-- the periods of all processes are those of one service whose plant is changed
abbrev pub ProcessesAreChanges : Type 0
ProcessesAreChanges = (restarts : ℕ) (first : InService) (all : AreProcesses restarts first) → IsBegun first → AreChanges (first_of_all restarts first all) (later_of_all restarts first all)

-- so an operator that keeps its row, at these places, goes through them as through one service
abbrev pub KeptRowsGoThroughAll : Type 0
KeptRowsGoThroughAll = (restarts : ℕ) (first : InService) (all : AreProcesses restarts first) (row : RowFields) (places : List ℕ) → IsBegun first → KeepsProvisioning first.run.plant.consts row (all_periods restarts first all) places
    → ArePeriodsOf first.run.plant.consts row (first.run.start.state row) (periods (all_periods restarts first all) places)

-- and it notices the same as in any other course of periods in which it starts so and has the same own steps, with or without restarts
abbrev pub RestartsAreNotNoticed : Type 0
RestartsAreNotNoticed = (restarts : ℕ) (first : InService) (all : AreProcesses restarts first) (row : RowFields) (places : List ℕ) (others : List Period) → IsBegun first
    → KeepsProvisioning first.run.plant.consts row (all_periods restarts first all) places → ArePeriodsOf first.run.plant.consts row (first.run.start.state row) others
    → steps_over row (periods (all_periods restarts first all) places) ≡ steps_over row others → NoticesAlike row (periods (all_periods restarts first all) places) others
