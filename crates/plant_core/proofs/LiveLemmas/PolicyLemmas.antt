-- Each machine of a live core has the policy of the plant's row at its place.
use Rattle.std.proofs.Common.{◌≡◌, ℕ, zero, suc, List, map, length, Option, Some, option_map, refl, sym, ap, ◌∙◌, arith}
use Rattle.grant_policy.specs.declared.policy.Policy.{Policy}
use Rattle.grant_policy.specs.declared.policy.Policy.TheVariants.{Strict, Aged, Short}
use Rattle.plant_core.proofs.LiveLemmas.Common.{slice_get, length-map, slice_get-map, slice_get_within, some_at, ∥∥₁_elim, props, ElementsFields, RowFields, PlantFields, BookView, Gathering, core_of, IsReachableFromStart}
use Rattle.plant_core.proofs.LiveLemmas.ResumeLemmas.{map_is}
use Rattle.plant_core.proofs.LiveLemmas.RestFaultLemmas.{one_book_each}

-- a policy as a number, and back
abbrev code : Policy → ℕ
code Strict = zero
code Short = suc zero
code (Aged step) = suc (suc step)

abbrev decoded : ℕ → Policy
decoded zero = Strict
decoded (suc zero) = Short
decoded (suc (suc step)) = Aged step

back : (policy : Policy) → decoded (code policy) ≡ policy
back Strict = refl
back Short = refl
back (Aged step) = refl

-- there is one proof that two numbers are the same
same_code : (a b : ℕ) (x y : a ≡ b) → x ≡ y
same_code a b = hlevel props

abbrev policy_of : RowFields → Policy
policy_of row = row.policy

abbrev own_policy : BookView → Policy
own_policy book = book.row.policy

module _ (plant : PlantFields) (gathering : Gathering) (lives : List BookView) (queues : List (List (ℕ × ElementsFields))) (reached : ∥ IsReachableFromStart (core_of plant lives queues gathering) ∥₁) where
  policy_there : (i : ℕ) (row : RowFields) (book : BookView) → slice_get plant.rows i ≡ Some row → slice_get lives i ≡ Some book → policy_of row ≡ own_policy book
  policy_there i row book here there =
      sym (back (policy_of row))
      ∙ (ap decoded (∥∥₁_elim reached (same_code (code (policy_of row)) (code (own_policy book))) (λ r. ap (λ (x : RowFields). code (policy_of x)) (sym (r.3.operators i row book here there).row_is)))
      ∙ back (own_policy book))

  pub policies_are : map own_policy lives ≡ map policy_of plant.rows
  policies_are =
      let long = one_book_each plant gathering lives queues reached in
      map_is own_policy lives (map policy_of plant.rows) (long ∙ sym (length-map plant.rows policy_of)) (λ i book there.
      let row = some_at plant.rows i (omega (arith, slice_get_within lives i book there, long)) in
      slice_get-map policy_of plant.rows i
      ∙ (ap (option_map policy_of) row.1 ∙ ap (λ (p : Policy). let o : Option Policy = Some p in o) (policy_there i row.0 book row.1 there)))
