-- What a run on threads results in (implementation-specific).
use Rattle.std.specs.Prelude.{◌≡◌, ◌≤◌, ◌==◌, ℕ, ◌<◌, Bool, false, List, length, count_by, All, slice_get, Some}
use Rattle.plant.specs.declared.plant.PlantFields.{PlantFields}
use Rattle.operator_model.specs.Replay.{BookView}
use Rattle.map_assembly.specs.declared.map_bytes.MapBytes.{MapBytes}
use Rattle.run_model.specs.declared.step.Step.{Step}
use Rattle.run_model.specs.declared.step.Step.TheVariants as steps
use Rattle.run_model.specs.OwnSteps.{collects_of}
use Rattle.run_model.specs.IsTraceOf.{IsTraceOf}
use Rattle.plant_workers.specs.declared.receipts.receipt.Receipt.{Receipt}
use Rattle.plant_workers.specs.receipts.Merge.{IsMergeOf}
use Rattle.plant_workers.specs.receipts.Callers.{AreByCallers}
use Rattle.plant_workers.specs.audit.Outs.{outs_of}
use Rattle.plant_workers.specs.audit.Straying.{AreOwnRuns}

-- each operator's history is the merge of what its callers were reported
abbrev pub AreMerged : List BookView → List (List (List Receipt)) → Type 0
AreMerged books receipts =
    (op : ℕ) (book : BookView) (callers : List (List Receipt)) → slice_get books op ≡ Some book
    → slice_get receipts op ≡ Some callers → IsMergeOf book.history callers

-- the run is what its steps make of its plant: each operator's history has just its own steps as actions and is the
-- merge of what its four callers were reported, each of its own kind of action alone, and the histories' outputs with the MAPs
-- are what a run of these steps shows
pub record IsOutcome (plant : PlantFields) (steps : List Step) (books : List BookView)
    (receipts : List (List (List Receipt))) (maps : List MapBytes) : Type 0 where
  pub one_each : length books ≡ length plant.rows
  pub callers_each : length receipts ≡ length books
  pub own : AreOwnRuns plant steps books
  pub by_callers : All AreByCallers receipts
  pub merge : AreMerged books receipts
  pub shown : IsTraceOf plant steps (outs_of books maps)

-- ---- what the steps are asked for

-- the step is a tick of this operator
abbrev pub is_tick_of : ℕ → Step → Bool
is_tick_of i (steps.Arrive modem heard) = false
is_tick_of i (steps.Work op) = false
is_tick_of i (steps.Tick op) = op == i
is_tick_of i (steps.Collect op) = false
is_tick_of i (steps.Reslice from rows) = false

-- how often an operator ticks
abbrev pub ticks_of : ℕ → List Step → ℕ
ticks_of i all = count_by (is_tick_of i) all

-- no operator's frames are collected more often than it ticks
abbrev pub AreTicked : PlantFields → List Step → Type 0
AreTicked plant all = (i : ℕ) → i < length plant.rows → collects_of i all ≤ ticks_of i all
