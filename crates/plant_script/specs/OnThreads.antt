-- What `threads` writes: the lines of a run that is settled, or the one line of its fault (implementation-specific).
use Rattle.std.specs.Prelude.{◌≡◌, ◌⊎◌, ℕ, List, [], ◌∷◌, ◌++◌, length, slice_get, Option, Some, None, codes}
use Rattle.std.specs.Fmt.{decimal}
use Rattle.plant.specs.declared.plant.PlantFields.{PlantFields}
use Rattle.operator_model.specs.Replay.{BookView}
use Rattle.map_assembly.specs.declared.map_bytes.MapBytes.{MapBytes}
use Rattle.plant_core.specs.declared.live.core_fault.CoreFault.{CoreFault}
use Rattle.plant_core.specs.declared.live.core_fault.ResliceFault.{ResliceFault}
use Rattle.plant_workers.specs.declared.receipts.receipt.Receipt.{Receipt}
use Rattle.plant_workers.specs.declared.receipts.run_fault.RunFault.{RunFault}
use Rattle.plant_workers.specs.declared.receipts.run_fault.RunFault.TheVariants as faults
use Rattle.plant_workers.specs.audit.Outcome.{IsOutcome}
use Rattle.plant_workers.specs.audit.Outs.{outs_of}
use Rattle.plant_workers.specs.plan.Serving.{IsServable, IsFirstUnserved}
use Rattle.plant_workers.specs.plan.Spending.{NoneSpentBefore, IsFirstSpent, before_reslice}
use Rattle.plant_workers.specs.Faulting.{IsResliceFault, IsFault}
use Rattle.line_service.specs.declared.script.script.LineStep.{LineStep}
use Rattle.line_service.specs.script.Script.{steps_without_numbers}
use Rattle.line_service.specs.script.Text.{operator_name, outs_text}

-- ---- a run that is settled

-- The run is what just these steps make of the plant (`IsOutcome`, which has `IsTraceOf`), and the text is the lines of what
-- its books output, operator by operator, and then the lines of its MAPs. So each operator's lines are those of its own
-- machine run alone, as in `run`.
pub record HasSettled (plant : PlantFields) (lines : List LineStep) (status : ℕ) (text : List ℕ) : Type 0 where
  pub status_is : status ≡ 0
  pub books : List BookView
  pub receipts : List (List (List Receipt))
  pub maps : List MapBytes
  pub outcome : IsOutcome plant (steps_without_numbers lines) books receipts maps
  pub text_is : text ≡ outs_text plant (outs_of books maps)

-- ---- the line of a step that is refused

-- that the line of this number is refused
abbrev pub ReportsLine : ℕ → ℕ → List ℕ → Type 0
ReportsLine number status text = (status ≡ 4) × (text ≡ codes "fault: line " ++ (decimal number ++ 10 ∷ []))

-- that the line at this place of the script's steps is refused
pub record ReportsPlace (lines : List LineStep) (place : ℕ) (status : ℕ) (text : List ℕ) : Type 0 where
  pub line : LineStep
  pub line_is : slice_get lines place ≡ Some line
  pub reports : ReportsLine line.number status text

-- ---- the line of a run that strayed

-- by an operator and a place
abbrev pub stray_line : List ℕ → List ℕ → List ℕ
stray_line who place = codes "fault: strayed " ++ (who ++ (codes " " ++ (place ++ 10 ∷ [])))

-- a place in an operator's history; `-` for none
abbrev pub refused_place_text : Option ℕ → List ℕ
refused_place_text None = codes "-"
refused_place_text (Some place) = decimal place

-- that what the threads did is not what the steps say
abbrev pub ReportsStray : List ℕ → List ℕ → ℕ → List ℕ → Type 0
ReportsStray who place status text = (status ≡ 7) × (text ≡ stray_line who place)

-- ---- the line of a fault

-- the Tick at this place, the first that finds its operator's frame numbers spent, is refused
pub record ReportsSpent (plant : PlantFields) (lines : List LineStep) (place : ℕ) (status : ℕ) (text : List ℕ) : Type 0 where
  pub first : IsFirstSpent plant (steps_without_numbers lines) place
  pub reports : ReportsPlace lines place status text

-- the core refused a step: the first Tick that finds its operator's frame numbers spent; where there is none, the run strayed, of
-- which neither an operator nor a place is known
abbrev pub ReportsCore : PlantFields → List LineStep → ℕ → List ℕ → Type 0
ReportsCore plant lines status text =
    ((place : ℕ) × ReportsSpent plant lines place status text)
    ⊎ (NoneSpentBefore plant (steps_without_numbers lines) (length lines) × ReportsStray (codes "-") (codes "-") status text)

-- the new slices of the line at this place are refused, for the core's own fault of them after the steps before
pub record ReportsReslice (plant : PlantFields) (lines : List LineStep) (at : ℕ) (fault : ResliceFault) (status : ℕ) (text : List ℕ) : Type 0 where
  pub refused : IsResliceFault plant (steps_without_numbers lines) at fault
  pub reports : ReportsPlace lines at status text

-- A fault is reported by one line: 7 where what the threads did is not what the steps say, with the operator and the place in
-- its history, or `-` and the frame of a MAP; 4 where a step is refused, a tick too many or new slices.
abbrev pub ReportsFault : PlantFields → List LineStep → RunFault → ℕ → List ℕ → Type 0
ReportsFault plant lines (faults.Strayed op index) status text =
    ReportsStray (operator_name (slice_get plant.rows op)) (refused_place_text (Some index)) status text
ReportsFault plant lines (faults.Short op) status text = ReportsStray (operator_name (slice_get plant.rows op)) (refused_place_text None) status text
ReportsFault plant lines (faults.MapStrayed frame) status text = ReportsStray (codes "-") (decimal frame) status text
ReportsFault plant lines (faults.Core fault) status text = ReportsCore plant lines status text
ReportsFault plant lines (faults.ResliceRefused at fault) status text = ReportsReslice plant lines at fault status text
ReportsFault plant lines faults.NoMemory status text = ⊥

-- the run has a fault, which comes of just these steps (`IsFault`), and it is reported
pub record HasFault (plant : PlantFields) (lines : List LineStep) (status : ℕ) (text : List ℕ) : Type 0 where
  pub fault : RunFault
  pub comes : IsFault plant (steps_without_numbers lines) fault
  pub reports : ReportsFault plant lines fault status text

-- ---- both

-- The run is settled, and reported with status 0; or it has a fault, and nothing else is reported. Steps that do not find what they
-- ask for, and a Tick before any new slices that finds its operator's frame numbers spent, are refused before a thread starts.
pub record IsThreadedRunOf (plant : PlantFields) (lines : List LineStep) (status : ℕ) (text : List ℕ) : Type 0 where
  pub comes : HasSettled plant lines status text ⊎ HasFault plant lines status text
  pub unserved : (fault : CoreFault) → IsFirstUnserved plant (steps_without_numbers lines) fault → ReportsCore plant lines status text
  pub spent : (place : ℕ) → IsServable plant (steps_without_numbers lines) → IsFirstSpent plant (before_reslice (steps_without_numbers lines)) place
      → ReportsSpent plant lines place status text
