-- Why a step is refused (implementation-specific).
use Rattle.std.specs.Prelude.{◌≡◌, ℕ, List, [], ◌∷◌, slice_get, option_map, Option, Some, None, if◌then◌else◌, Result, Ok, Err}
use Rattle.slice_scheduler.specs.declared.elements.ElementsFields.{ElementsFields}
use Rattle.plant.specs.Roster.{holder}
use Rattle.operator_model.specs.declared.action.Action.{Action}
use Rattle.operator_model.specs.declared.action.Action.TheVariants as actions
use Rattle.operator_model.specs.Machine.{is_spent}
use Rattle.operator_model.specs.Replay.{BookView}
use Rattle.operator_book.specs.declared.book.BookFault.TheVariants.{FramesSpent}
use Rattle.run_model.specs.declared.step.Step.{Step}
use Rattle.run_model.specs.declared.step.Step.TheVariants as steps
use Rattle.run_model.specs.IsStateAfter.{CoreView}
use Rattle.plant_core.specs.live.Reslicing.{reslice_fault}
use Rattle.plant_core.specs.declared.live.core_fault.CoreFault.{CoreFault}
use Rattle.plant_core.specs.declared.live.core_fault.CoreFault.TheVariants.{UnknownModem, UnknownOperator, Book, NothingToCollect, NoMemory, Reslice}

-- why the operator at a place does not act: there is none, or its frame numbers are spent
abbrev pub act_fault : ℕ → Action → Option BookView → Option CoreFault
act_fault op action None = Some (UnknownOperator op)
act_fault op action (Some book) = if is_spent book.state action then Some (Book FramesSpent) else None

-- why no frame of the operator at a place is collected: there is no such operator, or none waits
abbrev pub collect_fault : ℕ → Option (List (ℕ × ElementsFields)) → Option CoreFault
collect_fault op None = Some (UnknownOperator op)
collect_fault op (Some []) = Some (NothingToCollect op)
collect_fault op (Some (frame ∷ waiting)) = None

-- why what is received of a modem goes to no operator: no row holds the modem
abbrev pub arrive_fault : CoreView → Step → Option ℕ → Option CoreFault
arrive_fault core (steps.Arrive modem heard) None = Some (UnknownModem modem)
arrive_fault core (steps.Arrive modem heard) (Some op) = act_fault op (actions.Arrive modem heard) (slice_get core.books op)
arrive_fault core step place = None

-- why a step is refused, out of memory apart
abbrev pub step_fault : CoreView → Step → Option CoreFault
step_fault core (steps.Arrive modem heard) = arrive_fault core (steps.Arrive modem heard) (holder core.plant.rows modem)
step_fault core (steps.Work op) = act_fault op actions.Work (slice_get core.books op)
step_fault core (steps.Tick op) = act_fault op actions.Tick (slice_get core.books op)
step_fault core (steps.Collect op) = collect_fault op (slice_get core.queues op)
step_fault core (steps.Reslice from rows) = option_map (λ fault. Reslice fault) (reslice_fault from core.books rows)

-- the fault is reported exactly where there is one; where there is none, only memory can be wanting
abbrev pub IsReported : {A : Type 0} → Result A CoreFault → Option CoreFault → Type 0
IsReported (Ok x) fault = fault ≡ None
IsReported (Err NoMemory) fault = fault ≡ None
IsReported (Err told) fault = fault ≡ Some told
