-- Which of several faults is named (implementation-specific).
use Rattle.std.specs.Prelude.{◌≡◌, ◌≢◌, ℕ, ◌<◌, ◌≤◌, ◌⊎◌, Bool, true, IsTrue, List, ◌∷◌, ◌++◌, AllPairs, Some, slice_get}
use Rattle.dsx_messages.specs.declared.modem.Modem.{Modem}
use Rattle.plant.specs.Row.{is_listed}

-- a and b are at the least pair of places of which the test holds: the first counts before the second
pub record IsLeastPair {A : Type 0} (test : A → A → Bool) (xs : List A) (a b : A) : Type 0 where
  pub first : ℕ
  pub second : ℕ
  pub ordered : first < second
  pub here : slice_get xs first ≡ Some a
  pub there : slice_get xs second ≡ Some b
  pub joined : test a b ≡ true
  pub least : (i j : ℕ) (c d : A) → i < j → slice_get xs i ≡ Some c → slice_get xs j ≡ Some d → test c d ≡ true → (first < i) ⊎ ((first ≡ i) × (second ≤ j))

-- a is at the least place at which the test holds
pub record IsFirstWhere {A : Type 0} (test : A → Bool) (xs : List A) (a : A) : Type 0 where
  pub place : ℕ
  pub here : slice_get xs place ≡ Some a
  pub passes : test a ≡ true
  pub least : (i : ℕ) (c : A) → slice_get xs i ≡ Some c → test c ≡ true → place ≤ i

-- the address is the first that was before
pub record StandsAgain (modems : List Modem) (modem : Modem) : Type 0 where
  pub before : List Modem
  pub behind : List Modem
  pub is : modems ≡ before ++ modem ∷ behind
  pub stood : IsTrue (is_listed modem before)
  pub distinct : AllPairs (λ a b. a ≢ b) before
