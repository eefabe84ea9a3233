-- Where frame numbers are spent, operator by operator.
use Rattle.std.proofs.Common.{◌≡◌, ℕ, ◌+◌, ◌<◌, ◌≤◌, true, false, List, length, take, Option, Some, None, ◌⊎◌, inl, inr, refl, sym, ap, ◌∙◌, subst, arith, below_more}
use Rattle.plant_workers.proofs.PlanLemmas.Common.{slice_get, min, MatchOption, eq-eqb, eqb-true, false≢true, length-take-le, count_by-le-length, same_Some, slice_get_within, PlantFields, Step, is_tick_of, ticks_of, IsSpentAt, IsOwnSpent, NoneSpentBefore, IsFirstSpent}
use Rattle.run_model.specs.declared.step.Step.TheVariants as steps
use Rattle.plant_workers.specs.receipts.Straying.{lesser}

pub tick_is : (op : ℕ) (step : Step) → is_tick_of op step ≡ true → step ≡ steps.Tick op
tick_is op (steps.Arrive modem heard) e = absurd (false≢true e)
tick_is op (steps.Work other) e = absurd (false≢true e)
tick_is op (steps.Tick other) e = ap (λ (n : ℕ). steps.Tick n) (eqb-true other op e)
tick_is op (steps.Collect other) e = absurd (false≢true e)
tick_is op (steps.Reslice from rows) e = absurd (false≢true e)

-- ---- one operator's walk
module _ (first_frame op : ℕ) (all : List Step) (at : ℕ) (before : (i : ℕ) → i < at → IsSpentAt first_frame op all i → ⊥) where
  pub other_step : (step : Step) → slice_get all at ≡ Some step → is_tick_of op step ≡ false → (i : ℕ) → i < at + 1 → IsSpentAt first_frame op all i → ⊥
  other_step step here not_so = below_more (λ (i : ℕ). IsSpentAt first_frame op all i → ⊥) at before (λ p.
      let same : step ≡ steps.Tick op = same_Some step (steps.Tick op) (sym here ∙ p.step_is) in
      false≢true (sym not_so ∙ (ap (is_tick_of op) same ∙ eq-eqb op op refl)))

  pub not_yet : first_frame + ticks_of op (take at all) < 4294967295 → (i : ℕ) → i < at + 1 → IsSpentAt first_frame op all i → ⊥
  not_yet lt = below_more (λ (i : ℕ). IsSpentAt first_frame op all i → ⊥) at before (λ p. absurd (omega (arith, lt, p.spent)))

  pub spent_here : (step : Step) → slice_get all at ≡ Some step → is_tick_of op step ≡ true → 4294967295 ≤ first_frame + ticks_of op (take at all) → IsOwnSpent first_frame op all (Some at)
  spent_here step here is_so spent = (record { step_is = here ∙ ap (λ (s : Step). Some s) (tick_is op step is_so); spent = spent }, before)

  pub spent_nowhere : length all ≤ at → (i : ℕ) → IsSpentAt first_frame op all i → ⊥
  spent_nowhere le i p = let within = slice_get_within all i (steps.Tick op) p.step_is in before i (omega (arith, le, within)) p

-- fewer steps than the frame numbers that are left spend none
pub too_few : (first_frame op : ℕ) (all : List Step) → first_frame + length all ≤ 4294967295 → (i : ℕ) → IsSpentAt first_frame op all i → ⊥
too_few first_frame op all few i p =
    let within = slice_get_within all i (steps.Tick op) p.step_is in
    let most = count_by-le-length (is_tick_of op) (take i all) in
    let long = length-take-le i all (omega (arith, within)) in
    absurd (omega (arith, few, within, most, long, p.spent))

-- ---- operator by operator
-- the least place of the first operators
abbrev pub IsLeastOf : ℕ → List Step → ℕ → Option ℕ → Type 0
IsLeastOf first_frame all count None = (i op : ℕ) → op < count → IsSpentAt first_frame op all i → ⊥
IsLeastOf first_frame all count (Some place) =
    ((op : ℕ) × (op < count) × IsSpentAt first_frame op all place)
    × ((i op : ℕ) → i < place → op < count → IsSpentAt first_frame op all i → ⊥)

module _ (first_frame : ℕ) (all : List Step) (count : ℕ) where
  -- none of the first operators, and not the next
  both : (i : ℕ) → ((op : ℕ) → op < count → IsSpentAt first_frame op all i → ⊥) → (IsSpentAt first_frame count all i → ⊥) → (op : ℕ) → op < count + 1 → IsSpentAt first_frame op all i → ⊥
  both i first next = below_more (λ (op : ℕ). IsSpentAt first_frame op all i → ⊥) count first next

  one_of : (place : ℕ) → ((op : ℕ) × (op < count) × IsSpentAt first_frame op all place) → (op : ℕ) × (op < count + 1) × IsSpentAt first_frame op all place
  one_of place one = (one.0, omega (arith, one.1), one.2)

  the_lesser : (a b : ℕ) → IsLeastOf first_frame all count (Some a) → IsOwnSpent first_frame count all (Some b) → ((min a b ≡ a) × (a ≤ b)) ⊎ ((min a b ≡ b) × (b ≤ a)) → IsLeastOf first_frame all (count + 1) (Some (min a b))
  the_lesser a b least own (inl (is, le)) = (
    subst (λ (p : ℕ). (op : ℕ) × (op < count + 1) × IsSpentAt first_frame op all p) (sym is) (one_of a least.0),
    λ i op lt below. both i (λ o l. least.1 i o (omega (arith, lt, is)) l) (own.1 i (omega (arith, lt, is, le))) op below,
  )
  the_lesser a b least own (inr (is, le)) = (
    subst (λ (p : ℕ). (op : ℕ) × (op < count + 1) × IsSpentAt first_frame op all p) (sym is) (count, omega arith, own.0),
    λ i op lt below. both i (λ o l. least.1 i o (omega (arith, lt, is, le)) l) (own.1 i (omega (arith, lt, is))) op below,
  )

  which : (a b : ℕ) → ((min a b ≡ a) × (a ≤ b)) ⊎ ((min a b ≡ b) × (b ≤ a))
  which a b = grind arith

  pub least_more : (a b : Option ℕ) → IsLeastOf first_frame all count a → IsOwnSpent first_frame count all b → IsLeastOf first_frame all (count + 1) (lesser a b)
  least_more None None least own = λ i op lt. both i (λ o l. least i o l) (own i) op lt
  least_more None (Some b) least own =
      ((count, omega arith, own.0), λ i op lt below. both i (λ o l. least i o l) (own.1 i lt) op below)
  least_more (Some a) None least own =
      (one_of a least.0, λ i op lt below. both i (λ o l. least.1 i o lt l) (own i) op below)
  least_more (Some a) (Some b) least own = the_lesser a b least own (which a b)

-- the least of all operators
pub least_of_all : (plant : PlantFields) (all : List Step) (count : ℕ) → length plant.rows ≡ count → (place : Option ℕ) → IsLeastOf plant.consts.channel.first_frame all count place
    → MatchOption place (NoneSpentBefore plant all (length all)) (IsFirstSpent plant all)
least_of_all plant all count is None least = λ i op lt below. least i op (omega (arith, below, is))
least_of_all plant all count is (Some place) least = record {
  op = least.0.0;
  known = omega (arith, least.0.1, is);
  spent = least.0.2;
  before = λ i op lt below. least.1 i op lt (omega (arith, below, is));
}
