-- What stands at a place of a list.
use Rattle.std.proofs.Common.{◌≡◌, ℕ, zero, suc, ◌<◌, List, [], ◌∷◌, length, Some, refl, sym, ap, ◌∙◌, arith}
use Rattle.run_model.proofs.Common.{slice_get, slice_set, same_Some}

module _ {X : Type 0} where
  pub get_same : (xs : List X) (i : ℕ) (x : X) → i < length xs → slice_get (slice_set xs i x) i ≡ Some x
  get_same [] i x lt = absurd (omega arith)
  get_same (y ∷ ys) zero x lt = refl
  get_same (y ∷ ys) (suc i) x lt = get_same ys i x (omega arith)

  pub get_other : (xs : List X) (i k : ℕ) (x : X) → (k ≡ i → ⊥) → slice_get (slice_set xs i x) k ≡ slice_get xs k
  get_other [] i k x ne = refl
  get_other (y ∷ ys) zero zero x ne = absurd (ne refl)
  get_other (y ∷ ys) zero (suc k) x ne = refl
  get_other (y ∷ ys) (suc i) zero x ne = refl
  get_other (y ∷ ys) (suc i) (suc k) x ne = get_other ys i k x (λ e. ne (ap suc e))

  -- there is one at each place within
  pub some_at : (xs : List X) (i : ℕ) → i < length xs → (x : X) × (slice_get xs i ≡ Some x)
  some_at [] i lt = absurd (omega arith)
  some_at (x ∷ xs) zero lt = (x, refl)
  some_at (x ∷ xs) (suc i) lt = some_at xs i (omega arith)

  pub same_at : (xs : List X) (i : ℕ) (x y : X) → slice_get xs i ≡ Some x → slice_get xs i ≡ Some y → x ≡ y
  same_at xs i x y e f = same_Some x y (sym e ∙ f)
