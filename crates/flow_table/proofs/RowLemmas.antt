-- The rows of the flows, and their sums.
use Rattle.std.proofs.Common.{◌≡◌, ℕ, ◌+◌, cond, List, [], ◌∷◌, map, length, sum_by, refl, sym, ap, ◌∙◌}
use Rattle.flow_table.proofs.Common.{Ordering, Less, Equal, Greater, nat_cmp, is_eq, match_ordering, remove_entry, insert_entry, is_at, length-map, total_minislots, total_elements, UnitSizes, Flow, committed_of, with_flow, committed_minislots, committed_elements, budgets_of}
use Rattle.std.proofs.lemmas.List.Sums.{sum_by-cons}

-- ---- each value by a function

module _ {X Y : Type 0} (f : X → Y) where
  pub put_by : (es : List (ℕ × X)) (k : ℕ) (v : X)
      → insert_entry nat_cmp (map (λ e. (e.0, f e.1)) es) k (f v) ≡ map (λ e. (e.0, f e.1)) (insert_entry nat_cmp es k v)
  put_by [] k v = refl
  put_by (e ∷ es) k v =
      elim (nat_cmp k e.0) as (λ (o : Ordering).
      match_ordering o ((k, f v) ∷ (e.0, f e.1) ∷ map (λ x. (x.0, f x.1)) es) ((e.0, f v) ∷ map (λ x. (x.0, f x.1)) es) ((e.0, f e.1) ∷ insert_entry nat_cmp (map (λ x. (x.0, f x.1)) es) k (f v))
      ≡ map (λ x. (x.0, f x.1)) (match_ordering o ((k, v) ∷ e ∷ es) ((e.0, v) ∷ es) (e ∷ insert_entry nat_cmp es k v))) [
        | Less ↦ refl
        | Equal ↦ refl
        | Greater ↦ ap (λ (l : List (ℕ × Y)). (e.0, f e.1) ∷ l) (put_by es k v)
      ]

  pub taken_by : (es : List (ℕ × X)) (k : ℕ)
      → remove_entry (is_at (nat_cmp k)) (map (λ e. (e.0, f e.1)) es) ≡ map (λ e. (e.0, f e.1)) (remove_entry (is_at (nat_cmp k)) es)
  taken_by [] k = refl
  taken_by (e ∷ es) k =
      elim (nat_cmp k e.0) as (λ (o : Ordering).
      cond (is_eq o) (map (λ x. (x.0, f x.1)) es) ((e.0, f e.1) ∷ remove_entry (is_at (nat_cmp k)) (map (λ x. (x.0, f x.1)) es))
      ≡ map (λ x. (x.0, f x.1)) (cond (is_eq o) es (e ∷ remove_entry (is_at (nat_cmp k)) es))) [
        | Less ↦ ap (λ (l : List (ℕ × Y)). (e.0, f e.1) ∷ l) (taken_by es k)
        | Equal ↦ refl
        | Greater ↦ ap (λ (l : List (ℕ × Y)). (e.0, f e.1) ∷ l) (taken_by es k)
      ]

  sum_by_each : (g : Y → ℕ) (es : List (ℕ × X)) → sum_by (λ (e : ℕ × Y). g e.1) (map (λ e. (e.0, f e.1)) es) ≡ sum_by (λ (e : ℕ × X). g (f e.1)) es
  sum_by_each g [] = refl
  sum_by_each g (e ∷ es) =
      sum_by-cons (λ (x : ℕ × Y). g x.1) (e.0, f e.1) (map (λ x. (x.0, f x.1)) es)
      ∙ (ap (λ (n : ℕ). g (f e.1) + n) (sum_by_each g es) ∙ sym (sum_by-cons (λ (x : ℕ × X). g (f x.1)) e es))

-- ---- the rows

module _ (units : UnitSizes) where
  pub rows_put : (flows : List (ℕ × Flow)) (sfid : ℕ) (flow : Flow) → insert_entry nat_cmp (budgets_of units flows) sfid (committed_of units flow) ≡ budgets_of units (with_flow sfid flow flows)
  rows_put flows sfid flow = put_by (committed_of units) flows sfid flow

  pub rows_taken : (flows : List (ℕ × Flow)) (sfid : ℕ) → remove_entry (is_at (nat_cmp sfid)) (budgets_of units flows) ≡ budgets_of units (remove_entry (is_at (nat_cmp sfid)) flows)
  rows_taken flows sfid = taken_by (committed_of units) flows sfid

  pub length_rows : (flows : List (ℕ × Flow)) → length (budgets_of units flows) ≡ length flows
  length_rows flows = length-map flows (λ (e : ℕ × Flow). (e.0, committed_of units e.1))

  pub minislots_rows : (flows : List (ℕ × Flow)) → total_minislots (budgets_of units flows) ≡ committed_minislots units flows
  minislots_rows flows = sum_by_each (committed_of units) (λ b. b.minislots) flows

  pub elements_rows : (flows : List (ℕ × Flow)) → total_elements (budgets_of units flows) ≡ committed_elements units flows
  elements_rows flows = sum_by_each (committed_of units) (λ b. b.elements) flows
