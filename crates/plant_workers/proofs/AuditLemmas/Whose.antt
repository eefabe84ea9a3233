-- Whose modem a modem is, and whose step a step.
use Rattle.std.proofs.Common.{◌≡◌, ℕ, true, false, Bool, Option, Some, None, is_some, if◌then◌else◌, ◌⊎◌, inl, inr, refl, sym, ap, ◌∙◌, subst, arith}
use Rattle.plant_workers.proofs.AuditLemmas.Common.{◌==◌, slice_get, cases_eq, cond-false, eq-eqb, ne_eqb, false_from_ne_true, false≢true, none-some, same_Some, RowFields, PlantFields, is_listed, IsPlant, Action, Step, action_of, is_collect, same_at, taken_by, waiting_operator}
use Rattle.dsx_messages.specs.declared.modem.Modem.{Modem}
use Rattle.plant.specs.Roster.{holder, ListsFirst}
use Rattle.plant.proofs.Holders.{holder_holds, holder_is, one_lists}
use Rattle.operator_model.specs.declared.heard.Heard.{Heard}
use Rattle.operator_model.specs.declared.action.Action.TheVariants as actions
use Rattle.run_model.specs.declared.step.Step.TheVariants as steps
use Rattle.run_model.proofs.OwnActions.{arrive_at, work_at, tick_at}

module _ (plant : PlantFields) (modem : Modem) (op : ℕ) (row : RowFields) (is : IsPlant plant) (here : slice_get plant.rows op ≡ Some row) where
  pub held_by : (k : ℕ) → holder plant.rows modem ≡ Some k → (k == op) ≡ is_listed modem row.modems
  held_by k held = by (cases_eq k op)
    where
      holds : ListsFirst plant.rows modem k
      holds = holder_holds plant.rows modem k held

      by : (k ≡ op) ⊎ (k ≡ op → ⊥) → (k == op) ≡ is_listed modem row.modems
      by (inl same) =
          let row_is : holds.row ≡ row = same_at plant.rows k holds.row row holds.here (ap (slice_get plant.rows) same ∙ here) in
          eq-eqb k op same ∙ sym (subst (λ (r : RowFields). is_listed modem r.modems ≡ true) row_is holds.listed)
      by (inr other) =
          ne_eqb k op other
          ∙ sym (false_from_ne_true (is_listed modem row.modems) (λ listed. other (one_lists plant.rows modem k op holds.row row is.modems holds.here here holds.listed listed)))

  pub held_by_none : holder plant.rows modem ≡ None → false ≡ is_listed modem row.modems
  held_by_none none = sym (false_from_ne_true (is_listed modem row.modems) (λ listed.
      let holds : ListsFirst plant.rows modem op = record {
        row = row;
        here = here;
        listed = listed;
        first = λ i other e l. let same = one_lists plant.rows modem op i row other is.modems here e listed l in omega (arith, same);
      } in
      none-some op (sym none ∙ (holder_is plant.rows modem op).1 holds)))

-- an operator's own step is the action that it is taken as
pub own_is_taken : (row : RowFields) (i : ℕ) (step : Step) → is_some (action_of row i step) ≡ true → action_of row i step ≡ taken_by i step
own_is_taken row i (steps.Arrive modem heard) own = by (is_listed modem row.modems) own
  where
    by : (b : Bool) → is_some (if b then Some (actions.Arrive modem heard) else None) ≡ true → (if b then Some (actions.Arrive modem heard) else None) ≡ Some (actions.Arrive modem heard)
    by true own = refl
    by false own = absurd (false≢true own)
own_is_taken row i (steps.Work op) own = by (op == i) own
  where
    by : (b : Bool) → is_some (if b then Some actions.Work else None) ≡ true → (if b then Some actions.Work else None) ≡ Some actions.Work
    by true own = refl
    by false own = absurd (false≢true own)
own_is_taken row i (steps.Tick op) own = by (op == i) own
  where
    by : (b : Bool) → is_some (if b then Some actions.Tick else None) ≡ true → (if b then Some actions.Tick else None) ≡ Some actions.Tick
    by true own = refl
    by false own = absurd (false≢true own)
own_is_taken row i (steps.Collect op) own = refl
own_is_taken row i (steps.Reslice from rows) own = refl

pub some_is : {A : Type 0} (o : Option A) → is_some o ≡ true → (x : A) × (o ≡ Some x)
some_is None h = absurd (false≢true h)
some_is (Some x) h = (x, refl)

pub none_is : {A : Type 0} (o : Option A) → is_some o ≡ false → o ≡ None
none_is None h = refl
none_is (Some x) h = absurd (false≢true (sym h))

pub own_action : (row : RowFields) (i : ℕ) (step : Step) → is_some (action_of row i step) ≡ true → (action : Action) × (action_of row i step ≡ Some action) × (taken_by i step ≡ Some action)
own_action row i step own =
    let found = some_is (action_of row i step) own in
    (found.0, found.1, sym (own_is_taken row i step own) ∙ found.1)

pub no_action : (row : RowFields) (i : ℕ) (step : Step) → is_some (action_of row i step) ≡ false → action_of row i step ≡ None
no_action row i step other = none_is (action_of row i step) other

-- what is heard of another operator's modem is no action of this one
pub arrive_none : (plant : PlantFields) (modem : Modem) (heard : Heard) (op : ℕ) (row : RowFields) → IsPlant plant → slice_get plant.rows op ≡ Some row → (holder plant.rows modem ≡ Some op → ⊥)
    → action_of row op (steps.Arrive modem heard) ≡ None
arrive_none plant modem heard op row is here other = by (holder plant.rows modem) refl
  where
    by : (o : Option ℕ) → holder plant.rows modem ≡ o → action_of row op (steps.Arrive modem heard) ≡ None
    by None e = cond-false (is_listed modem row.modems) (Some (actions.Arrive modem heard)) None (sym (held_by_none plant modem op row is here e))
    by (Some k) e = (arrive_at plant modem heard k is e).else op row here (λ same. other (e ∙ ap (λ (n : ℕ). Some n) (sym same)))

-- a step that waits in one operator's history is no action and no collection of another
pub record IsNoStepOf (row : RowFields) (i : ℕ) (step : Step) : Type 0 where
  pub action : action_of row i step ≡ None
  pub collection : is_collect i step ≡ false

pub others_none : (plant : PlantFields) (step : Step) (op i : ℕ) (row : RowFields) → IsPlant plant → waiting_operator plant step ≡ Some op → (i ≡ op → ⊥) → slice_get plant.rows i ≡ Some row
    → IsNoStepOf row i step
others_none plant (steps.Arrive modem heard) op i row is waits ne here = record {
  action = arrive_none plant modem heard i row is here (λ held. ne (same_Some i op (sym held ∙ waits)));
  collection = refl;
}
others_none plant (steps.Work other) op i row is waits ne here = record {
  action = (work_at plant other).else i row here (λ same. ne (same ∙ same_Some other op waits));
  collection = refl;
}
others_none plant (steps.Tick other) op i row is waits ne here = record {
  action = (tick_at plant other).else i row here (λ same. ne (same ∙ same_Some other op waits));
  collection = refl;
}
others_none plant (steps.Collect other) op i row is waits ne here = record {
  action = refl;
  collection = ne_eqb other i (λ same. ne (sym same ∙ same_Some other op waits));
}
others_none plant (steps.Reslice from rows) op i row is waits ne here = absurd (none-some op waits)

-- a step that waits in an operator's history is, for this operator, the action that it is taken as
pub waits_as_taken : (plant : PlantFields) (step : Step) (op : ℕ) (row : RowFields) → IsPlant plant → waiting_operator plant step ≡ Some op → slice_get plant.rows op ≡ Some row → action_of row op step ≡ taken_by op step
waits_as_taken plant (steps.Arrive modem heard) op row is waits here = (arrive_at plant modem heard op is waits).here op row here refl
waits_as_taken plant (steps.Work other) op row is waits here = (work_at plant other).here op row here (sym (same_Some other op waits))
waits_as_taken plant (steps.Tick other) op row is waits here = (tick_at plant other).here op row here (sym (same_Some other op waits))
waits_as_taken plant (steps.Collect other) op row is waits here = refl
waits_as_taken plant (steps.Reslice from rows) op row is waits here = absurd (none-some op waits)
