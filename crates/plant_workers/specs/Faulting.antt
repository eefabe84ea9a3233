-- What a run on threads is refused for (implementation-specific).
use Rattle.std.specs.Prelude.{◌≡◌, ◌≢◌, ◌⊎◌, ℕ, List, length, take, slice_get, Option, Some}
use Rattle.plant.specs.declared.plant.PlantFields.{PlantFields}
use Rattle.operator_model.specs.declared.action.SliceRow.{SliceRow}
use Rattle.operator_model.specs.Replay.{BookView}
use Rattle.operator_book.specs.declared.book.BookFault.TheVariants as book_faults
use Rattle.map_assembly.specs.declared.refused.GatherFault.TheVariants as gather_faults
use Rattle.run_model.specs.declared.step.Step.{Step}
use Rattle.run_model.specs.declared.step.Step.TheVariants as steps
use Rattle.plant_core.specs.declared.live.core_fault.CoreFault.{CoreFault}
use Rattle.plant_core.specs.declared.live.core_fault.CoreFault.TheVariants.{Book, Gather, Reslice}
use Rattle.plant_core.specs.declared.live.core_fault.ResliceFault.{ResliceFault}
use Rattle.plant_core.specs.live.Reslicing.{reslice_fault}
use Rattle.plant_workers.specs.declared.receipts.run_fault.RunFault.{RunFault}
use Rattle.plant_workers.specs.declared.receipts.run_fault.RunFault.TheVariants.{Core, Strayed, ResliceRefused}
use Rattle.plant_workers.specs.audit.Straying.{AreOwnRuns, IsStrayHistory}
use Rattle.plant_workers.specs.plan.Serving.{IsServable, IsFirstUnserved}

-- a book refused an action, or the assembly a frame, and not for out of memory
abbrev pub IsOfThreads : CoreFault → Type 0
IsOfThreads (Book fault) = fault ≢ book_faults.NoMemory
IsOfThreads (Gather fault) = fault ≢ gather_faults.NoMemory
IsOfThreads fault = ⊥

-- the step at this place is a `Reslice`, which these books refuse for this fault
pub record RefuseAt (all : List Step) (at : ℕ) (books : List BookView) (fault : ResliceFault) : Type 0 where
  pub from : ℕ
  pub rows : List SliceRow
  pub step_is : slice_get all at ≡ Some (steps.Reslice from rows)
  pub fault_is : reslice_fault from books rows ≡ Some fault

-- a fault of slices is the one that they have; any other says nothing of them
abbrev pub IsResliceTold : CoreFault → Option ResliceFault → Type 0
IsResliceTold (Reslice fault) found = found ≡ Some fault
IsResliceTold fault found = Unit {0}

-- the step at this place is a `Reslice`, of which this was reported over these books
pub record IsToldAt (all : List Step) (at : ℕ) (books : List BookView) (fault : CoreFault) : Type 0 where
  pub from : ℕ
  pub rows : List SliceRow
  pub step_is : slice_get all at ≡ Some (steps.Reslice from rows)
  pub told : IsResliceTold fault (reslice_fault from books rows)

-- the core's fault of the slice change at this place, by the books that the steps before it make of the plant
pub record IsResliceFault (plant : PlantFields) (all : List Step) (at : ℕ) (fault : ResliceFault) : Type 0 where
  pub books : List BookView
  pub one_each : length books ≡ length plant.rows
  pub own : AreOwnRuns plant (take at all) books
  pub refused : RefuseAt all at books fault

-- The fault of a run of which the `Reslice` at this place was refused for this fault, over these books, of which there is one for
-- each operator: where the first of them strays from the steps before, else that refusal. No other fault is reported.
abbrev pub IsOfReslice : PlantFields → List Step → ℕ → List BookView → ResliceFault → RunFault → Type 0
IsOfReslice plant all at books refusal (Strayed op index) = IsStrayHistory plant (take at all) books op index
IsOfReslice plant all at books refusal (ResliceRefused place fault) =
    AreOwnRuns plant (take at all) books × (place ≡ at) × (fault ≡ refusal)
IsOfReslice plant all at books refusal fault = ⊥

-- a fault that comes once each step is known to find what it asks for
abbrev pub IsRunFault : PlantFields → List Step → RunFault → Type 0
IsRunFault plant all (Core fault) = IsOfThreads fault
IsRunFault plant all (ResliceRefused at fault) = IsResliceFault plant all at fault
IsRunFault plant all fault = Unit {0}

-- the first step that does not find what it asks for is reported
abbrev pub IsOfWalk : PlantFields → List Step → RunFault → Type 0
IsOfWalk plant all (Core fault) = IsFirstUnserved plant all fault
IsOfWalk plant all fault = ⊥

-- a fault of a run on threads: the first step that does not find what it needs; or, if each step does, a fault of a book or of the
-- assembly, of `settle` or `compare`, or of a slice change
abbrev pub IsFault : PlantFields → List Step → RunFault → Type 0
IsFault plant all fault = IsOfWalk plant all fault ⊎ (IsServable plant all × IsRunFault plant all fault)
