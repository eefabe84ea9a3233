-- Each ranking follows the policy of its operator's row.
use Rattle.std.proofs.Common.{◌≡◌, ◌≢◌, ℕ, ◌<◌, List, map, length, get_or, Result, Ok, Err, OnOk, OnErr, Some, option_map, refl, sym, ap, ◌∙◌, ◌++◌}
use Rattle.plant_core.proofs.Common.{slice_get, slice_get-map, slice_get_read, RowFields, PlantFields, BookView, Step, Out, CoreView, Steps}
use Rattle.grant_policy.specs.declared.policy.Policy.{Policy}
use Rattle.run_model.specs.Opened.{opened_core}
use Rattle.plant_core.proofs.ReachLemmas.{plant_kept}

some_same : {X : Type 0} (x y : X) → Some x ≡ Some y → x ≡ y
some_same x y h = cc

-- two lists that differ in one place
pub do_differ : {X Y Z : Type 0} (f : X → Z) (g : Y → Z) (xs : List X) (ys : List Y) (at : ℕ) (x : X) (y : Y) → at < length xs → at < length ys → x ≡ get_or xs at x → y ≡ get_or ys at y
    → f x ≢ g y → map f xs ≡ map g ys → ⊥
do_differ f g xs ys at x y here there is so apart same =
    apart (some_same (f x) (g y) (sym (slice_get-map f xs at ∙ ap (option_map f) (slice_get_read xs (length xs) at x refl here is))
    ∙ (ap (λ zs. slice_get zs at) same ∙ (slice_get-map g ys at ∙ ap (option_map g) (slice_get_read ys (length ys) at y refl there so)))))

-- ---- the ranking of an operator

abbrev pub policy_of : RowFields → Policy
policy_of row = row.policy

abbrev pub own_policy : BookView → Policy
own_policy book = book.row.policy

module _ {X : Type 0} (policy : X → Policy) (rankings : List X) (rows : List RowFields) (books : List BookView) (follow : map policy rankings ≡ map policy_of rows) (own : map own_policy books ≡ map policy_of rows) (op : ℕ) where
  -- the policies at this place
  policy_there : option_map policy (slice_get rankings op) ≡ option_map own_policy (slice_get books op)
  policy_there = sym (slice_get-map policy rankings op) ∙ (ap (λ (ps : List Policy). slice_get ps op) (follow ∙ sym own) ∙ slice_get-map own_policy books op)

  pub follows_row : (ranking : X) → slice_get rankings op ≡ Some ranking → (book : BookView) → slice_get books op ≡ Some book → policy ranking ≡ book.row.policy
  follows_row ranking there book here =
      some_same (policy ranking) book.row.policy (sym (ap (option_map policy) there) ∙ (policy_there ∙ ap (option_map own_policy) here))

-- ---- rankings that follow the rows as a core is opened

pub opened_follow : {X : Type 0} (policy : X → Policy) (given rankings : List X) (rows : List RowFields) (plant : PlantFields) (core : CoreView) → given ≡ rankings → rows ≡ plant.rows → core ≡ opened_core plant
    → map policy given ≡ map policy_of rows → map policy rankings ≡ map policy_of core.plant.rows
opened_follow policy given rankings rows plant core same is opened follow =
    ap (map policy) (sym same) ∙ (follow ∙ (ap (map policy_of) is ∙ ap (λ (c : CoreView). map policy_of c.plant.rows) (sym opened)))

-- ---- a step keeps the plant, so the rankings follow its rows as before

pub still_follow : {A E : Type 0} (result : Result A E) (step : Step) (old new : CoreView) (outs outs' : List Out) (policies : List Policy) → OnOk result ((now : List Out) × (outs' ≡ outs ++ now) × Steps step old new now)
    → OnErr result (new ≡ old) → policies ≡ map policy_of old.plant.rows → policies ≡ map policy_of new.plant.rows
still_follow (Ok x) step old new outs outs' policies done same follow = follow ∙ ap (λ (p : PlantFields). map policy_of p.rows) (sym (plant_kept step old new done.0 done.2))
still_follow (Err e) step old new outs outs' policies done same follow = follow ∙ ap (λ (core : CoreView). map policy_of core.plant.rows) (sym same)
