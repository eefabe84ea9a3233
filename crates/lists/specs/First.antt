-- The first of a list that something holds of (implementation-specific).
use Rattle.std.specs.Prelude.{◌≡◌, List, ◌∷◌, ◌++◌, All}

-- P holds of x, and of none of those that are present before it
pub record IsFirst {X : Type 0} (P : X → Type 0) (xs : List X) (x : X) : Type 0 where
  pub before : List X
  pub after : List X
  pub split : xs ≡ before ++ x ∷ after
  pub none : All (λ y. ¬ P y) before
  pub holds : P x
