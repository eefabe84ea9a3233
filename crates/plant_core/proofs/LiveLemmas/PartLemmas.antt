-- A live core of which a part is the same.
use Rattle.std.proofs.Common.{◌≡◌, ℕ, ◌<◌, List, length, map, get_or, Option, Some, None, sym, ap, ◌∙◌, subst, true, false, refl}
use Rattle.plant_core.proofs.LiveLemmas.Common.{slice_get, slice_set, cond-true, some_pair_parts, ∥∥₁_elim, props, ElementsFields, RowFields, PlantFields, is_listed, holder, Modem, Heard, Step, Out, Acts, Steps, Action, stranger_of, BookView, Gathering, has_begun, target, CoreView, core_of, IsOfAStep, Performs, IsReachableFromStart}
use Rattle.plant.proofs.Holders.{holder_holds}
use Rattle.operator_model.specs.declared.action.Action.TheVariants as actions
use Rattle.run_model.specs.declared.step.Step.TheVariants as steps
use Rattle.plant_core.proofs.LiveLemmas.PlaceLemmas.{seen_at, set_alike}
use Rattle.plant_core.proofs.LiveLemmas.ReachLemmas.{goes_to}

pub same_plant : (new old : PlantFields) (lives : List BookView) (queues : List (List (ℕ × ElementsFields))) (gathering : Gathering) → new ≡ old → ∥ IsReachableFromStart (core_of old lives queues gathering) ∥₁ → ∥ IsReachableFromStart (core_of new lives queues gathering) ∥₁
same_plant new old lives queues gathering same reached = subst (λ (p : PlantFields). ∥ IsReachableFromStart (core_of p lives queues gathering) ∥₁) (sym same) reached

pub same_gathering : (plant : PlantFields) (lives : List BookView) (queues : List (List (ℕ × ElementsFields))) (new old : Gathering) → new ≡ old → ∥ IsReachableFromStart (core_of plant lives queues old) ∥₁ → ∥ IsReachableFromStart (core_of plant lives queues new) ∥₁
same_gathering plant lives queues new old same reached = subst (λ (g : Gathering). ∥ IsReachableFromStart (core_of plant lives queues g) ∥₁) (sym same) reached

pub same_begun : (new old : Gathering) → new ≡ old → has_begun old ≡ false → has_begun new ≡ false
same_begun new old same fresh = ap (λ (g : Gathering). has_begun g) same ∙ fresh

-- a desk is put back as it was
pub desk_same : {X : Type 0} (book : X → BookView) (waits : X → List (ℕ × ElementsFields)) (plant : PlantFields) (new old : Gathering) (desks : List X) (n op : ℕ) (desk after : X)
    → n ≡ length desks → op < n → desk ≡ get_or desks op desk → book after ≡ book desk → waits after ≡ waits desk → new ≡ old
    → core_of plant (map book (slice_set desks op after)) (map waits (slice_set desks op after)) new ≡ core_of plant (map book desks) (map waits desks) old
desk_same book waits plant new old desks n op desk after long within at books waiting same = λ k.
    core_of plant (set_alike book desks op after (book desk) (seen_at book desks n op desk long within at) books k)
    (set_alike waits desks op after (waits desk) (seen_at waits desks n op desk long within at) waiting k) (same k)

pub reached_again : (new old : CoreView) → new ≡ old → ∥ IsReachableFromStart old ∥₁ → ∥ IsReachableFromStart new ∥₁
reached_again new old same reached = subst (λ (core : CoreView). ∥ IsReachableFromStart core ∥₁) (sym same) reached

-- what is heard of a modem goes to the operator that lists it
pub arrive_on : (new old : CoreView) (modem : Modem) (heard : Heard) (op : ℕ) (after : CoreView) (now : List Out) → new ≡ old → Some op ≡ holder old.plant.rows modem
    → Performs (Acts op (actions.Arrive modem heard)) new after now → Performs (Steps (steps.Arrive modem heard)) old after now
arrive_on new old modem heard op after now same there performs =
    (performs.0, (op, sym there, subst (λ (v : CoreView). Acts op (actions.Arrive modem heard) v performs.0 now) same performs.1), performs.2)

pub step_is : (step named : Step) (old new : CoreView) (now : List Out) → step ≡ named → Performs (Steps named) old new now → Performs (Steps step) old new now
step_is step named old new now same performs = subst (λ (s : Step). Performs (Steps s) old new now) (sym same) performs

-- ---- the action of a step

-- what is received of a modem goes to the operator whose row lists it
listed_there : (plant : PlantFields) (modem : Modem) (heard : Heard) (op : ℕ) (row : RowFields) → holder plant.rows modem ≡ Some op
    → ((other : RowFields) → slice_get plant.rows op ≡ Some other → row ≡ other) → stranger_of row (actions.Arrive modem heard) ≡ None
listed_there plant modem heard op row held is_row =
    let holds = holder_holds plant.rows modem op held in
    cond-true (is_listed modem row.modems) None (Some modem) (subst (λ (r : RowFields). is_listed modem r.modems ≡ true) (sym (is_row holds.row holds.here)) holds.listed)

-- so no modem of the action is a stranger to that row
step_is_mine : (plant : PlantFields) (op : ℕ) (action : Action) (row : RowFields) → IsOfAStep plant op action
    → ((other : RowFields) → slice_get plant.rows op ≡ Some other → row ≡ other) → stranger_of row action ≡ None
step_is_mine plant op action row goal is_row = by goal.0 goal.1
  where
    mine : (heard : Action) → heard ≡ action → stranger_of row heard ≡ None → stranger_of row action ≡ None
    mine heard same own = subst (λ (a : Action). stranger_of row a ≡ None) same own

    by : (step : Step) → target plant step ≡ Some (op, action) → stranger_of row action ≡ None
    by (steps.Arrive modem heard) goes =
        let to = goes_to (holder plant.rows modem) op (actions.Arrive modem heard) action goes in
        mine (actions.Arrive modem heard) to.1 (listed_there plant modem heard op row to.0 is_row)
    by (steps.Work i) goes = mine actions.Work (some_pair_parts i op actions.Work action goes).1 refl
    by (steps.Tick i) goes = mine actions.Tick (some_pair_parts i op actions.Tick action goes).1 refl
    by (steps.Collect i) goes = absurd (cc)
    by (steps.Reslice from rows) goes = absurd (cc)

-- there is one proof that two modems are the same
same_modem : (a b : Option Modem) → IsProp (a ≡ b)
same_modem a b = hlevel props

-- a machine of a core has the plant's row at its place, so no modem of the action is a stranger to it
pub acts_as_its_own : (plant : PlantFields) (gathering : Gathering) (lives : List BookView) (queues : List (List (ℕ × ElementsFields))) (op : ℕ) (action : Action) (b : BookView)
    → ∥ IsReachableFromStart (core_of plant lives queues gathering) ∥₁ → IsOfAStep plant op action → slice_get lives op ≡ Some b → stranger_of b.row action ≡ None
acts_as_its_own plant gathering lives queues op action b reached goal there =
    ∥∥₁_elim reached (same_modem (stranger_of b.row action) None) (λ r.
    step_is_mine plant op action b.row goal (λ row here. (r.3.operators op row b here there).row_is))
