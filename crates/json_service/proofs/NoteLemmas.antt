-- A step that a check decides is not refused.
use Rattle.std.proofs.Common.{◌≡◌, Option, Some, None, IsSome, Result, Ok, Err, OnErr, refl}
use Rattle.operator_model.specs.declared.action.Action.TheVariants as actions
use Rattle.operator_model.specs.Replay.{BookView}
use Rattle.plant_core.specs.live.Faults.{act_fault, step_fault}
use Rattle.run_model.specs.declared.step.Step.{Step}
use Rattle.run_model.specs.declared.step.Step.TheVariants as steps
use Rattle.run_model.specs.IsStateAfter.{CoreView}
use Rattle.std.specs.Prelude.{slice_get}
use Rattle.trace_report.specs.declared.decision.Decision.{Decision}
use Rattle.trace_report.specs.Decision.{message_at_hand, IsDecisionOf, IsDecision}

none_decides : (decision : Option Decision) → decision ≡ None → IsSome decision → ⊥
none_decides None is some = cc
none_decides (Some decision) is some = cc

at_book : (op : _) (book : Option BookView) (decision : Option Decision) → IsDecisionOf (message_at_hand book) decision → IsSome decision → act_fault op actions.Work book ≡ None
at_book op None decision is some = absurd (none_decides decision is some)
at_book op (Some book) decision is some = refl

pub decided_is_done : (core : CoreView) (step : Step) (decision : Option Decision) → IsDecision core step decision → IsSome decision → step_fault core step ≡ None
decided_is_done core (steps.Work op) decision is some = at_book op (slice_get core.books op) decision is some
decided_is_done core (steps.Arrive modem heard) decision is some = absurd (none_decides decision is some)
decided_is_done core (steps.Tick op) decision is some = absurd (none_decides decision is some)
decided_is_done core (steps.Collect op) decision is some = absurd (none_decides decision is some)
decided_is_done core (steps.Reslice from rows) decision is some = absurd (none_decides decision is some)

pub on_err_map : {A E : Type 0} (r : Result A E) (P Q : Type 0) → (P → Q) → OnErr r P → OnErr r Q
on_err_map (Ok x) P Q f p = tt
on_err_map (Err e) P Q f p = f p
