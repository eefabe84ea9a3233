-- Snapshots that are restored, or not.
use Rattle.std.proofs.Common.{◌≡◌, ℕ, ◌+◌, ◌<◌, ◌≤◌, List, [], ◌∷◌, length, map, take, get_or, All, sym, ap, subst}
use Rattle.plant_restart.proofs.Common.{Contains, map-append, take_more, take_all, All-contains, All-push, PlantFields, OperatorState, over_map, SavedOperator, RestartFault, NoMemory, saved_by_name, names_of, HasNoRow, HaveRows, IsRestartFault, IsRestoreFault, CanRestart}
use Rattle.plant_restart.specs.declared.fault.RestoreFault.TheVariants.{UnknownOperator, Restart}
use Rattle.plant_restart.proofs.RefusalLemmas.{memory_alone}

module _ (plant : PlantFields) (frame : ℕ) (operators : List SavedOperator) where
  abbrev states : List (List ℕ × OperatorState)
  states = map (saved_by_name frame) operators

  names_same : names_of states ≡ map (λ (saved : SavedOperator). saved.name) operators
  names_same = over_map (λ (named : List ℕ × OperatorState). named.0) (saved_by_name frame) operators

  pub have_rows : HaveRows plant.rows (map (λ (saved : SavedOperator). saved.name) operators) → HaveRows plant.rows (names_of states)
  have_rows have = subst (λ (names : List (List ℕ)). HaveRows plant.rows names) (sym names_same) have

  pub unknown : (name : List ℕ) → Contains (map (λ (saved : SavedOperator). saved.name) operators) name → HasNoRow plant.rows name → IsRestoreFault plant frame states (UnknownOperator name)
  unknown name has none = (subst (λ (names : List (List ℕ)). Contains names name) (sym names_same) has, none)

  pub not_unknown : (name : List ℕ) → Contains (map (λ (saved : SavedOperator). saved.name) operators) name → HasNoRow plant.rows name → HaveRows plant.rows (names_of states) → ⊥
  not_unknown name has none have =
      All-contains (λ (n : List ℕ). ¬ HasNoRow plant.rows n) (names_of states) name have (subst (λ (names : List (List ℕ)). Contains names name) (sym names_same) has) none

  pub not_restored : (why : RestartFault) → HaveRows plant.rows (map (λ (saved : SavedOperator). saved.name) operators) → IsRestartFault plant frame states why → IsRestoreFault plant frame states (Restart why)
  not_restored why have is = (have_rows have, is)

  pub restore_memory : (why : RestartFault) → CanRestart plant frame states → IsRestartFault plant frame states why → Restart why ≡ Restart NoMemory
  restore_memory why can is = ap (λ (f : RestartFault). Restart f) (memory_alone plant frame states why can is)

-- ---- names of saved operators, one after the other

module _ (P : List ℕ → Type 0) (operators : List SavedOperator) where
  pub name_more : (i : ℕ) (one : SavedOperator) → i < length operators → one ≡ get_or operators i one → All P (map (λ (saved : SavedOperator). saved.name) (take i operators)) → P one.name
      → All P (map (λ (saved : SavedOperator). saved.name) (take (i + 1) operators))
  name_more i one lt is before p =
      subst (λ (xs : List SavedOperator). All P (map (λ (saved : SavedOperator). saved.name) xs)) (sym (take_more operators i one lt))
      (subst (All P) (sym (map-append (λ (saved : SavedOperator). saved.name) (take i operators) (get_or operators i one ∷ [])))
      (All-push P (map (λ (saved : SavedOperator). saved.name) (take i operators)) (get_or operators i one).name before (subst (λ (saved : SavedOperator). P saved.name) is p)))

  pub name_all : (i : ℕ) → length operators ≤ i → All P (map (λ (saved : SavedOperator). saved.name) (take i operators)) → All P (map (λ (saved : SavedOperator). saved.name) operators)
  name_all i le before = subst (λ (xs : List SavedOperator). All P (map (λ (saved : SavedOperator). saved.name) xs)) (take_all i operators le) before
