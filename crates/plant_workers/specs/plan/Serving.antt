-- Which steps find what they ask for, after the steps before them (implementation-specific).
use Rattle.std.specs.Prelude.{◌≡◌, ℕ, ◌+◌, ◌<◌, nat_lt, List, length, take, slice_get, slice_index, Option, Some, None, if◌then◌else◌}
use Rattle.dsx_messages.specs.declared.modem.Modem.{Modem}
use Rattle.plant.specs.declared.plant.PlantFields.{PlantFields}
use Rattle.plant.specs.Roster.{holder}
use Rattle.run_model.specs.declared.step.Step.{Step}
use Rattle.run_model.specs.declared.step.Step.TheVariants as steps
use Rattle.run_model.specs.OwnSteps.{collects_of}
use Rattle.plant_core.specs.declared.live.core_fault.CoreFault.{CoreFault}
use Rattle.plant_core.specs.declared.live.core_fault.CoreFault.TheVariants.{UnknownModem, UnknownOperator, NothingToCollect}
use Rattle.plant_workers.specs.audit.Outcome.{ticks_of}

-- no operator lists the modem
abbrev pub unknown_modem_fault : Modem → Option ℕ → Option CoreFault
unknown_modem_fault modem None = Some (UnknownModem modem)
unknown_modem_fault modem (Some op) = None

-- there is no such operator, or else what else there is
abbrev pub past : PlantFields → ℕ → Option CoreFault → Option CoreFault
past plant op other = if nat_lt op (length plant.rows) then other else Some (UnknownOperator op)

-- each of the operator's frames was collected
abbrev pub all_collected : List Step → ℕ → Option CoreFault
all_collected before op = if nat_lt (collects_of op before) (ticks_of op before) then None else Some (NothingToCollect op)

-- why a step does not find what it asks for, after the steps before it: its modem or its operator is not there, or no Tick
-- of its operator has output a frame that was not collected
abbrev pub unserved_by : PlantFields → List Step → Step → Option CoreFault
unserved_by plant before (steps.Arrive modem heard) = unknown_modem_fault modem (holder plant.rows modem)
unserved_by plant before (steps.Work op) = past plant op None
unserved_by plant before (steps.Tick op) = past plant op None
unserved_by plant before (steps.Collect op) = past plant op (all_collected before op)
unserved_by plant before (steps.Reslice from rows) = None

-- each of the first steps finds what it asks for
abbrev pub AreServed : PlantFields → List Step → ℕ → Type 0
AreServed plant all count =
    (i : ℕ) (step : Step) → i < count → slice_get all i ≡ Some step → unserved_by plant (take i all) step ≡ None

-- each step finds what it asks for
abbrev pub IsServable : PlantFields → List Step → Type 0
IsServable plant all = AreServed plant all (length all)

-- the first step that does not find what it asks for does not for this fault
pub record IsFirstUnserved (plant : PlantFields) (all : List Step) (fault : CoreFault) : Type 0 where
  pub place : ℕ
  pub step : Step
  pub step_is : slice_get all place ≡ Some step
  pub fault_is : unserved_by plant (take place all) step ≡ Some fault
  pub before : AreServed plant all place

-- how many frames of each operator were output by a Tick and not collected
pub record AreWaiting (operators : ℕ) (before : List Step) (waiting : List ℕ) : Type 0 where
  pub one_each : length waiting ≡ operators
  pub counts : (op : ℕ) → op < operators → slice_index waiting op + collects_of op before ≡ ticks_of op before
