-- A step of a core next to its record is planned and refused as one of the core without histories.
use Rattle.std.proofs.Common.{◌≡◌, ℕ, List, length, Option, Some, None, option_map, refl, sym, ap, subst, ◌∙◌, arith}
use Rattle.plant_core.proofs.Common.{slice_get, slice_get-map, slice_get_within, PlantFields, SliceRow, Action, IsAllowed, BookView, operator_of_book, CoreView, some_at, ActPlan, ResliceFault, act_fault, step_fault, IsOfAStep, reslice_fault, forgotten, IsOf, IsActPlan}
use Rattle.dsx_messages.specs.declared.modem.Modem.{Modem}
use Rattle.plant.specs.Roster.{holder}
use Rattle.plant.proofs.Holders.{holder_holds}
use Rattle.operator_model.specs.declared.heard.Heard.{Heard}
use Rattle.operator_book.specs.Planned.{IsPlanOf, IsCommittable}
use Rattle.run_model.specs.declared.step.Step.TheVariants as steps
use Rattle.plant_core.specs.declared.live.core_fault.CoreFault.TheVariants.{Reslice}
use Rattle.plant_core.proofs.LiveLemmas.BehindLemmas.{found}
use Rattle.plant_core.proofs.LiveLemmas.FaultLemmas.{same_step_fault}

module _ (live core : CoreView) (is : IsOf live core) where
  -- ---- plans

  -- a plan for the live core is one for the core with histories
  pub plan_behind : (op : ℕ) (action : Action) (act : ActPlan) → IsActPlan live op action act → IsActPlan core op action act
  plan_behind op action act plan =
      let at = found core.books live.books op plan.book is.books_are plan.book_is in
      record {
        of_step = subst (λ (p : PlantFields). IsOfAStep p op action) (sym is.plant_is) plan.of_step;
        op_is = plan.op_is;
        book = at.0;
        book_is = at.1;
        allowed = subst (λ (b : BookView). IsAllowed (operator_of_book b) action) (sym at.2) plan.allowed;
        plan_is = subst (λ (b : BookView). IsPlanOf (operator_of_book b) action act.plan) (sym at.2) plan.plan_is;
        committable = subst (λ (b : BookView). IsCommittable (operator_of_book b) act.plan) (sym at.2) plan.committable;
      }

  -- and back
  pub plan_at_live : (op : ℕ) (action : Action) (act : ActPlan) → IsActPlan core op action act → IsActPlan live op action act
  plan_at_live op action act plan = record {
    of_step = subst (λ (p : PlantFields). IsOfAStep p op action) is.plant_is plan.of_step;
    op_is = plan.op_is;
    book = forgotten plan.book;
    book_is = sym (ap (λ (bs : List BookView). slice_get bs op) is.books_are) ∙ (slice_get-map forgotten core.books op ∙ ap (option_map forgotten) plan.book_is);
    allowed = plan.allowed;
    plan_is = plan.plan_is;
    committable = plan.committable;
  }

  -- ---- faults

  pub same_act_fault : (op : ℕ) (action : Action) → act_fault op action (slice_get core.books op) ≡ act_fault op action (slice_get live.books op)
  same_act_fault op action =
      sym (ap (act_fault op action) (slice_get-map forgotten core.books op) ∙ at (slice_get core.books op))
      ∙ ap (λ (bs : List BookView). act_fault op action (slice_get bs op)) is.books_are
    where
      at : (book : Option BookView) → act_fault op action (option_map forgotten book) ≡ act_fault op action book
      at None = refl
      at (Some book) = refl

  pub same_reslice_fault : (from : ℕ) (rows : List SliceRow) → reslice_fault from core.books rows ≡ reslice_fault from live.books rows
  same_reslice_fault from rows = by (reslice_fault from core.books rows) (reslice_fault from live.books rows) (same_step_fault live core (steps.Reslice from rows) is)
    where
      by : (a b : Option ResliceFault) → option_map (λ f. Reslice f) a ≡ option_map (λ f. Reslice f) b → a ≡ b
      by None None e = refl
      by None (Some f) e = absurd (cc)
      by (Some f) None e = absurd (cc)
      by (Some f) (Some h) e = cc

  -- what is heard of a modem is not refused where an operator lists the modem
  pub none_refuses : (modem : Modem) (heard : Heard) (op : ℕ) → length live.books ≡ length live.plant.rows → Some op ≡ holder live.plant.rows modem → step_fault core (steps.Arrive modem heard) ≡ None
  none_refuses modem heard op one_each there = same_step_fault live core (steps.Arrive modem heard) is ∙ at
    where
      at : step_fault live (steps.Arrive modem heard) ≡ None
      at =
          let row = holder_holds live.plant.rows modem op (sym there) in
          let book = some_at live.books op (omega (arith, one_each, slice_get_within live.plant.rows op row.row row.here)) in
          rw (← there, book.1) refl
