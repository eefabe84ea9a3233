-- The plan of an operator's action (implementation-specific).
use Rattle.std.specs.Prelude.{◌≡◌, ℕ, slice_get, Some}
use Rattle.operator_model.specs.declared.action.Action.{Action}
use Rattle.operator_model.specs.Machine.{IsAllowed}
use Rattle.operator_model.specs.Replay.{BookView, operator_of_book}
use Rattle.operator_book.specs.declared.handling.FirstRequest.{FirstRequest}
use Rattle.operator_book.specs.Planned.{IsFirstRequest, IsPlanOf, IsCommittable}
use Rattle.run_model.specs.IsStateAfter.{CoreView}
use Rattle.plant_core.specs.declared.live.act_plan.ActPlan.{ActPlan}
use Rattle.plant_core.specs.live.Reachable.{IsOfAStep}

-- it is the plan of this action of the operator at this place, which `plan_act` makes and `commit_act` carries out: of its machine's
-- outputs and its state after it
pub record IsActPlan (core : CoreView) (op : ℕ) (action : Action) (act : ActPlan) : Type 0 where
  pub of_step : IsOfAStep core.plant op action
  pub op_is : act.op ≡ op
  pub book : BookView
  pub book_is : slice_get core.books op ≡ Some book
  pub allowed : IsAllowed (operator_of_book book) action
  pub plan_is : IsPlanOf (operator_of_book book) action act.plan
  pub committable : IsCommittable (operator_of_book book) act.plan

-- it is the plan of some action
abbrev pub IsSomeActPlan : CoreView → ActPlan → Type 0
IsSomeActPlan core act = (op : ℕ) × (action : Action) × IsActPlan core op action act

-- the operator at this place received this bandwidth request first
pub record HasRequest (core : CoreView) (op : ℕ) (first : FirstRequest) : Type 0 where
  pub book : BookView
  pub book_is : slice_get core.books op ≡ Some book
  pub first_is : IsFirstRequest book.state.inbox first
