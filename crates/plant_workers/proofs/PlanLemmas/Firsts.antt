-- What the steps are decides what is told.
use Rattle.std.proofs.Common.{◌≡◌, ◌↔◌, ℕ, ◌+◌, ◌<◌, List, take, Option, Some, None, ◌⊎◌, inl, inr, refl, sym, ap, ◌∙◌, subst, arith}
use Rattle.plant_workers.proofs.PlanLemmas.Common.{slice_get, IfSome, IfNone, cases_eq, none-some, same_Some, slice_get_within, PlantFields, Step, same_at, CoreFault, unserved_by, AreServed, IsServable, IsFirstUnserved}

module _ (plant : PlantFields) (all : List Step) where
  -- one more step is served
  pub served_more : (at : ℕ) (step : Step) → slice_get all at ≡ Some step → unserved_by plant (take at all) step ≡ None → AreServed plant all at → AreServed plant all (at + 1)
  served_more at step here served before i other lt there = by (cases_eq i at)
    where
      by : (i ≡ at) ⊎ (i ≡ at → ⊥) → unserved_by plant (take i all) other ≡ None
      by (inl same) =
          let same_step : other ≡ step = same_at all at other step (ap (slice_get all) (sym same) ∙ there) here in
          ap (λ (n : ℕ). unserved_by plant (take n all) other) same ∙ (ap (unserved_by plant (take at all)) same_step ∙ served)
      by (inr ne) = before i other (omega (arith, lt, ne)) there

  -- the step at this place is the first that is not served
  pub first_of : (fault : CoreFault) (at : ℕ) (step : Step) → slice_get all at ≡ Some step → unserved_by plant (take at all) step ≡ Some fault → AreServed plant all at → IsFirstUnserved plant all fault
  first_of fault at step here unserved before = record { place = at; step = step; step_is = here; fault_is = unserved; before = before }

  pub not_both : (fault : CoreFault) → IsServable plant all → IsFirstUnserved plant all fault → ⊥
  not_both fault served first =
      none-some fault (sym (served first.place first.step (slice_get_within all first.place first.step first.step_is) first.step_is) ∙ first.fault_is)

  before_not : (f g : CoreFault) (p : IsFirstUnserved plant all f) (q : IsFirstUnserved plant all g) → p.place < q.place → ⊥
  before_not f g p q lt = none-some f (sym (q.before p.place p.step lt p.step_is) ∙ p.fault_is)

  pub one_fault : (f g : CoreFault) → IsFirstUnserved plant all f → IsFirstUnserved plant all g → f ≡ g
  one_fault f g p q = by (cases_eq p.place q.place)
    where
      by : (p.place ≡ q.place) ⊎ (p.place ≡ q.place → ⊥) → f ≡ g
      by (inl same) =
          let same_step : p.step ≡ q.step = same_at all q.place p.step q.step (ap (slice_get all) (sym same) ∙ p.step_is) q.step_is in
          same_Some f g (sym p.fault_is ∙ (ap (λ (n : ℕ). unserved_by plant (take n all) p.step) same ∙ (ap (unserved_by plant (take q.place all)) same_step ∙ q.fault_is)))
      by (inr ne) =
          let a = before_not f g p q in
          let b = before_not g f q p in
          absurd (omega (arith, ne, a, b))

  -- ---- what a walk tells decides both ways

  pub served_iff : (r : Option CoreFault) → IfNone r (IsServable plant all) → IfSome r (IsFirstUnserved plant all) → (r ≡ None) ↔ IsServable plant all
  served_iff None served first = (λ e. served, λ s. refl)
  served_iff (Some fault) served first = (λ e. cc, λ s. absurd (not_both fault s first))

  pub first_iff : (r : Option CoreFault) → IfNone r (IsServable plant all) → IfSome r (IsFirstUnserved plant all) → (fault : CoreFault) → (r ≡ Some fault) ↔ IsFirstUnserved plant all fault
  first_iff None served first fault = (λ e. cc, λ other. absurd (not_both fault served other))
  first_iff (Some told) served first fault = (
    λ e. subst (IsFirstUnserved plant all) (same_Some told fault e) first,
    λ other. ap (λ (f : CoreFault). Some f) (one_fault told fault first other),
  )
