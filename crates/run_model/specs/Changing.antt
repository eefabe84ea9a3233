-- A plant that is changed while it is in service (implementation-specific).
use Rattle.std.specs.Prelude.{◌≡◌, ◌≢◌, ◌∷◌, [], ℕ, List, length, slice_get, Some, ⊤}
use Rattle.plant.specs.declared.consts.ConstsFields.{ConstsFields}
use Rattle.plant.specs.declared.operator_row.RowFields.{RowFields}
use Rattle.plant.specs.declared.plant.PlantFields.{PlantFields}
use Rattle.plant.specs.Consts.{KeepsConsts}
use Rattle.operator_model.specs.State.{OperatorState, opened_before}
use Rattle.run_model.specs.declared.step.Step.{Step}
use Rattle.run_model.specs.declared.step.Out.{Out}
use Rattle.run_model.specs.OwnSteps.{collects_of}
use Rattle.run_model.specs.Starts.{Start, IsStart}
use Rattle.run_model.specs.IsTraceOf.{isolated_run_from, IsTraceFrom}
use Rattle.map_assembly.specs.Gathering.{IsGathering}
use Rattle.run_model.specs.Opened.{gathering_from}
use Rattle.run_model.specs.IsStateAfter.{frames_of}
use Rattle.run_model.specs.Periods.{Period, ArePeriodsOf}
use Rattle.run_model.specs.Places.{AtEachOperator}

-- a run of a plant so far: since it was opened, resumed or changed
pub record RunSoFar : Type 0 where
  pub plant : PlantFields
  pub start : Start
  pub steps : List Step
  pub outs : List Out

-- the state in which the operator at this place is now
abbrev pub state_now : RunSoFar → ℕ → RowFields → OperatorState
state_now since i row = (isolated_run_from since.plant.consts since.start row i since.steps).state

-- a plant at rest before a frame: each operator is before it, and each frame that it output was collected
pub record IsAtRest (since : RunSoFar) (frame : ℕ) : Type 0 where
  pub before : AtEachOperator since.plant (λ i row. (state_now since i row).frame ≡ frame)
  pub collected : AtEachOperator since.plant
      (λ i row. collects_of i since.steps ≡ length (frames_of (isolated_run_from since.plant.consts since.start row i since.steps).outputs))

-- no operator of the plant has the name of this row
abbrev pub IsNewRow : PlantFields → RowFields → Type 0
IsNewRow plant row = AtEachOperator plant (λ i was. was.name ≢ row.name)

-- The plant is changed to another one: at rest, with the same constants except for classes that are added, to a valid start with valid
-- slices. An operator with the name of one of the old plant goes on in its state. An operator with a new name is opened at the frame.
pub record IsPlantChange (old new : RunSoFar) : Type 0 where
  pub rests : IsAtRest old new.start.frame
  pub shared : KeepsConsts old.plant.consts new.plant.consts
  pub starts : IsStart new.plant new.start
  pub slices : IsGathering (gathering_from new.plant new.start)
  pub go_on : (i j : ℕ) (was row : RowFields) → slice_get old.plant.rows i ≡ Some was → slice_get new.plant.rows j ≡ Some row → was.name ≡ row.name
      → new.start.state row ≡ state_now old i was
  pub open_anew : AtEachOperator new.plant (λ j row. IsNewRow old.plant row → new.start.state row ≡ opened_before new.start.frame new.plant.consts row)
  pub nothing_done : (new.steps ≡ []) × (new.outs ≡ [])

-- one plant after the other, each shown, and each changed from how the one before it ended
abbrev pub AreChanges : RunSoFar → List RunSoFar → Type 0
AreChanges first [] = IsTraceFrom first.plant first.start first.steps first.outs
AreChanges first (next ∷ more) =
    IsTraceFrom first.plant first.start first.steps first.outs
    × IsPlantChange first (record next { steps = []; outs = [] }) × AreChanges next more

-- an operator keeps what it is provisioned with through all of them: what all operators share, and its row, at these places; so no class is
-- added, and none gets another place in the table
abbrev pub KeepsProvisioning : ConstsFields → RowFields → List RunSoFar → List ℕ → Type 0
KeepsProvisioning consts row [] [] = ⊤
KeepsProvisioning consts row [] (place ∷ places) = ⊥
KeepsProvisioning consts row (since ∷ more) [] = ⊥
KeepsProvisioning consts row (since ∷ more) (place ∷ places) =
    (since.plant.consts ≡ consts) × (slice_get since.plant.rows place ≡ Some row) × KeepsProvisioning consts row more places

-- the runs as periods of the operator that is at these places
abbrev pub periods : List RunSoFar → List ℕ → List Period
periods [] places = []
periods (since ∷ more) [] = []
periods (since ∷ more) (place ∷ places) =
    record { plant = since.plant; start = since.start; steps = since.steps; outs = since.outs; place = place } ∷ periods more places

-- So it went through them as `changes_are_not_noticed` asks. A class that is added is a change of what each operator is provisioned with.
abbrev pub ServiceGoesThrough : Type 0
ServiceGoesThrough = (row : RowFields) (first : RunSoFar) (more : List RunSoFar) (places : List ℕ) → AreChanges first more
    → KeepsProvisioning first.plant.consts row (first ∷ more) places
    → ArePeriodsOf first.plant.consts row (first.start.state row) (periods (first ∷ more) places)
