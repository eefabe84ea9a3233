-- How far an operator has come in the steps of a run, as a walk over them keeps it (implementation-specific).
use Rattle.std.specs.Prelude.{◌≡◌, ℕ, ◌+◌, List, [], length, slice_get, count_by, Option, Some, None}
use Rattle.plant.specs.declared.operator_row.RowFields.{RowFields}
use Rattle.plant.specs.declared.plant.PlantFields.{PlantFields}
use Rattle.operator_model.specs.Frames.{is_tick}
use Rattle.run_model.specs.declared.step.Step.{Step}
use Rattle.run_model.specs.OwnSteps.{own_steps, collects_of}
use Rattle.plant_workers.specs.declared.plan.turns.Course.{Course}
use Rattle.plant_workers.specs.audit.Taken.{waiting_operator}
use Rattle.plant_workers.specs.plan.Turns.{IsTickAt, IsDueAt}

-- the course counts the operator's own actions and collections among these steps, and how many actions there were right
-- after each Tick
pub record IsCourse (row : RowFields) (op : ℕ) (before : List Step) (course : Course) : Type 0 where
  pub actions : course.actions ≡ length (own_steps row op before)
  pub collects : course.collects ≡ collects_of op before
  pub many : length course.behind.items ≡ count_by is_tick (own_steps row op before)
  pub ticks : (count place : ℕ) → IsTickAt (own_steps row op before) count place
      → slice_get course.behind.items count ≡ Some (place + 1)

-- the turn of a step of this operator, or none of a step of another
abbrev pub IsOwnTurn : PlantFields → RowFields → ℕ → List Step → Step → Option ℕ → Type 0
IsOwnTurn plant row op before step None = waiting_operator plant step ≡ Some op → ⊥
IsOwnTurn plant row op before step (Some turn) =
    (waiting_operator plant step ≡ Some op) × IsDueAt (own_steps row op before) (collects_of op before) step turn

-- the operator has not begun
pub record IsNewCourse (course : Course) : Type 0 where
  pub actions : course.actions ≡ 0
  pub collects : course.collects ≡ 0
  pub behind : course.behind.items ≡ []

-- so many operators have not begun
pub record AreNewCourses (operators : ℕ) (courses : List Course) : Type 0 where
  pub one_each : length courses ≡ operators
  pub each : (op : ℕ) (course : Course) → slice_get courses op ≡ Some course → IsNewCourse course

-- each operator has come as far as these steps lead it
pub record AreCourses (plant : PlantFields) (before : List Step) (courses : List Course) : Type 0 where
  pub one_each : length courses ≡ length plant.rows
  pub each : (op : ℕ) (row : RowFields) (course : Course) → slice_get plant.rows op ≡ Some row
      → slice_get courses op ≡ Some course → IsCourse row op before course
