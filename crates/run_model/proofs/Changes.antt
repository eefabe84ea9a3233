-- An operator that keeps its row goes through changes of its plant.
use Rattle.std.proofs.Common.{◌≡◌, ℕ, List, [], ◌∷◌, refl, ◌∙◌}
use Rattle.run_model.proofs.Common.{ConstsFields, RowFields, OperatorState, operator, own_run, own_steps, ArePeriodsOf}
use Rattle.run_model.specs.Changing.{RunSoFar, AreChanges, KeepsProvisioning, periods, ServiceGoesThrough}

through : (consts : ConstsFields) (row : RowFields) (state : OperatorState) (first : RunSoFar) (more : List RunSoFar) (places : List ℕ) → first.start.state row ≡ state
    → AreChanges first more → KeepsProvisioning consts row (first ∷ more) places → ArePeriodsOf consts row state (periods (first ∷ more) places)
through consts row state first more [] s changes keeps = absurd keeps
through consts row state first [] (place ∷ []) s changes keeps = (record { shown = changes; consts_are = keeps.0; row_is = keeps.1; starts = s }, tt)
through consts row state first [] (place ∷ other ∷ places) s changes keeps = absurd keeps.2
through consts row state first (next ∷ more) (place ∷ []) s changes keeps = absurd keeps.2
through consts row state first (next ∷ more) (place ∷ other ∷ places) s changes keeps =
    let changed = changes.1 in (
      record { shown = changes.0; consts_are = keeps.0; row_is = keeps.1; starts = s },
      through consts row (own_run (operator consts row state) (own_steps row place first.steps)).state next more (other ∷ places)
          (changed.go_on place other row row keeps.1 keeps.2.1 refl ∙ (λ k. (own_run (operator (keeps.0 k) row (s k)) (own_steps row place first.steps)).state)) changes.2 keeps.2,
    )

pub goes_through : ServiceGoesThrough
goes_through row first more places changes keeps = through first.plant.consts row (first.start.state row) first more places refl changes keeps
