-- Whose action a step is: one operator's, and none of every other.
use Rattle.std.proofs.Common.{◌≡◌, ℕ, true, Some, None, sym, ap, ◌∙◌, subst}
use Rattle.run_model.proofs.Common.{◌==◌, slice_get, eq-eqb, ne_eqb, cond-true, cond-false, false_from_ne_true, RowFields, PlantFields, is_listed, IsPlant, holder, ListsFirst, Action, Step, action_of}
use Rattle.dsx_messages.specs.declared.modem.Modem.{Modem}
use Rattle.plant.proofs.Holders.{holder_holds, one_lists}
use Rattle.operator_model.specs.declared.heard.Heard.{Heard}
use Rattle.operator_model.specs.declared.action.Action.TheVariants as actions
use Rattle.run_model.specs.declared.step.Step.TheVariants as steps
use Rattle.run_model.proofs.Entries.{same_at}

-- the step is this action of the operator at place k, and none of any other
pub record IsActionAt (plant : PlantFields) (step : Step) (k : ℕ) (action : Action) : Type 0 where
  pub here : (i : ℕ) (row : RowFields) → slice_get plant.rows i ≡ Some row → i ≡ k → action_of row i step ≡ Some action
  pub else : (i : ℕ) (row : RowFields) → slice_get plant.rows i ≡ Some row → (i ≡ k → ⊥) → action_of row i step ≡ None

pub work_at : (plant : PlantFields) (k : ℕ) → IsActionAt plant (steps.Work k) k actions.Work
work_at plant k = record {
  here = λ i row e same. cond-true (k == i) (Some actions.Work) None (eq-eqb k i (sym same));
  else = λ i row e other. cond-false (k == i) (Some actions.Work) None (ne_eqb k i (λ same. other (sym same)));
}

pub tick_at : (plant : PlantFields) (k : ℕ) → IsActionAt plant (steps.Tick k) k actions.Tick
tick_at plant k = record {
  here = λ i row e same. cond-true (k == i) (Some actions.Tick) None (eq-eqb k i (sym same));
  else = λ i row e other. cond-false (k == i) (Some actions.Tick) None (ne_eqb k i (λ same. other (sym same)));
}

pub arrive_at : (plant : PlantFields) (modem : Modem) (heard : Heard) (k : ℕ) → IsPlant plant → holder plant.rows modem ≡ Some k → IsActionAt plant (steps.Arrive modem heard) k (actions.Arrive modem heard)
arrive_at plant modem heard k is held =
    let holds : ListsFirst plant.rows modem k = holder_holds plant.rows modem k held in
    record {
      here = λ i row e same.
          let row_is : holds.row ≡ row = same_at plant.rows k holds.row row holds.here (ap (slice_get plant.rows) (sym same) ∙ e) in
          cond-true (is_listed modem row.modems) (Some (actions.Arrive modem heard)) None (subst (λ (r : RowFields). is_listed modem r.modems ≡ true) row_is holds.listed);
      else = λ i row e other.
          cond-false (is_listed modem row.modems) (Some (actions.Arrive modem heard)) None
          (false_from_ne_true (is_listed modem row.modems) (λ listed. other (one_lists plant.rows modem i k row holds.row is.modems e holds.here listed holds.listed)));
    }
