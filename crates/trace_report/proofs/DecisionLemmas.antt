-- What decides a message, by what it was read as, and a step, by whose message it handles.
use Rattle.std.proofs.Common.{◌≡◌, ℕ, List, Option, Some, None, option_map, Result, IfOk, refl, sym, ap, ◌∙◌, subst}
use Rattle.trace_report.proofs.Common.{slice_get, slice_get-map, Step, CoreView, Decision, AtHand, IsDecision, IsDecisionOf, first_message, message_of_step, message_at_hand}
use Rattle.std.specs.declared.alloc.AllocError.{AllocError}
use Rattle.operator_model.specs.Replay.{BookView}
use Rattle.operator_model.specs.State.{Operator, operator}
use Rattle.run_model.specs.declared.step.Step.TheVariants as steps
use Rattle.plant_core.specs.live.Performing.{forgotten, IsOf}
use Rattle.trace_report.specs.declared.seen.StepReport.{StepReport}

-- ---- a step

pub no_work : (core : CoreView) (step : Step) → ((op : ℕ) → step ≡ steps.Work op → ⊥) → IsDecision core step None
no_work core (steps.Work op) other = absurd (other op refl)
no_work core (steps.Arrive modem heard) other = refl
no_work core (steps.Tick op) other = refl
no_work core (steps.Collect op) other = refl
no_work core (steps.Reslice from rows) other = refl

-- work of one of a core's books
module _ (core : CoreView) (op : ℕ) (step : Step) (is : step ≡ steps.Work op) where
  handled : (book : Option BookView) → slice_get core.books op ≡ book → message_of_step core step ≡ message_at_hand book
  handled book there = ap (message_of_step core) is ∙ ap message_at_hand there

  pub nobody_works : slice_get core.books op ≡ None → IsDecision core step None
  nobody_works past = subst (λ (at : Option AtHand). IsDecisionOf at None) (sym (handled None past)) refl

  pub one_works : (book : BookView) (o : Operator) (r : Result StepReport AllocError) → slice_get core.books op ≡ Some book → o ≡ operator book.consts book.row book.state
      → IfOk r (λ seen. IsDecisionOf (first_message o o.state.inbox) seen.decision) → IfOk r (λ seen. IsDecision core step seen.decision)
  one_works book o r there same decided =
      subst (λ (at : Option AtHand). IfOk r (λ seen. IsDecisionOf at seen.decision))
      (ap (λ (x : Operator). first_message x x.state.inbox) same ∙ sym (handled (Some book) there))
      decided

-- ---- a core, and what is held of it

forgotten_message : (book : Option BookView) → message_at_hand (option_map forgotten book) ≡ message_at_hand book
forgotten_message None = refl
forgotten_message (Some book) = refl

same_message : (live core : CoreView) (step : Step) → IsOf live core → message_of_step live step ≡ message_of_step core step
same_message live core (steps.Work op) is =
    ap (λ (books : List BookView). message_at_hand (slice_get books op)) (sym is.books_are)
    ∙ (ap message_at_hand (slice_get-map forgotten core.books op) ∙ forgotten_message (slice_get core.books op))
same_message live core (steps.Arrive modem heard) is = refl
same_message live core (steps.Tick op) is = refl
same_message live core (steps.Collect op) is = refl
same_message live core (steps.Reslice from rows) is = refl

-- what decides a step of what is held of a core decides the step of that core
pub same_decision : (live core : CoreView) (step : Step) (decision : Option Decision) → IsOf live core → IsDecision live step decision → IsDecision core step decision
same_decision live core step decision is decided = subst (λ (at : Option AtHand). IsDecisionOf at decision) (same_message live core step is) decided
