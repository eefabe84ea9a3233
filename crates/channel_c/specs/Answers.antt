-- What a call makes of the channel of its handle, by the number that it returns (implementation-specific).
use Rattle.std.specs.Prelude.{◌≡◌, ◌≢◌, ◌⊎◌, ℕ, List, Option, Some, None}
use Rattle.dsx_messages.specs.declared.modem.Modem.{Modem}
use Rattle.plant.specs.Roster.{holder}
use Rattle.operator_model.specs.declared.action.SliceRow.{SliceRow}
use Rattle.operator_model.specs.declared.heard.Heard.{Heard}
use Rattle.run_model.specs.declared.step.Step.{Step}
use Rattle.run_model.specs.declared.step.Step.TheVariants as steps
use Rattle.plant_core.specs.live.Faults.{step_fault}
use Rattle.channel_c.specs.declared.channel.OpenChannel.{OpenChannel}
use Rattle.channel_c.specs.declared.slices.SliceBudget.{SliceBudget}
use Rattle.channel_c.specs.Codes.{IsStepCode}
use Rattle.channel_c.specs.Waiting.{view_of, IsSame, GoesOn, GoesOnTwice}

-- a closed handle stays closed, and the number is 2; the channel of an open one goes from the old to the new as this says
abbrev pub InHandle : ℕ → (OpenChannel → OpenChannel → Type 0) → Option OpenChannel → Option OpenChannel → Type 0
InHandle code holds None None = code ≡ 2
InHandle code holds None (Some new) = ⊥
InHandle code holds (Some old) None = ⊥
InHandle code holds (Some old) (Some new) = holds old new

-- 0: the step is performed. Any other number: nothing changes, and it is that of the step's fault, or 1
pub record StepEnds (code : ℕ) (step : Step) (old new : OpenChannel) : Type 0 where
  pub done : code ≡ 0 → GoesOn step old new
  pub same : code ≢ 0 → IsSame old new
  pub fault : IsStepCode code (step_fault (view_of old) step)

-- what a modem sent is put into the inbox of its operator, which then handles the first of its inbox
abbrev pub IsReceived : Modem → Heard → OpenChannel → OpenChannel → Type 0
IsReceived modem heard old new =
    (op : ℕ) × (holder (view_of old).plant.rows modem ≡ Some op) × GoesOnTwice (steps.Arrive modem heard) (steps.Work op) old new

-- 0: both steps are performed. 5: what was sent is in the inbox, and memory ran out before it was handled. Any other number: nothing
-- changes, and it is that of the first step's fault, or 1
pub record ArrivalEnds (code : ℕ) (modem : Modem) (heard : Heard) (old new : OpenChannel) : Type 0 where
  pub done : code ≡ 0 → IsReceived modem heard old new
  pub received : code ≡ 5 → GoesOn (steps.Arrive modem heard) old new
  pub same : code ≢ 0 → code ≢ 5 → IsSame old new
  pub fault : (code ≡ 5) ⊎ IsStepCode code (step_fault (view_of old) (steps.Arrive modem heard))

-- the same, or memory ran out before anything changes
abbrev pub OrNoMemory : ℕ → (OpenChannel → OpenChannel → Type 0) → OpenChannel → OpenChannel → Type 0
OrNoMemory code holds old new = ((code ≡ 1) × IsSame old new) ⊎ holds old new

-- an operator's slice and budget as C gives them, as its row of a slice change
abbrev pub row_as : SliceBudget → SliceRow
row_as row = record { start = row.start; length = row.length; budget = row.budget }
