-- The least of two.
use Rattle.std.proofs.Common.{◌≡◌, ℕ, ◌<◌, ◌≤◌, ◌⊎◌, inl, inr, ⊎_elim, Option, Some, None, refl, sym, ap, subst, arith}
use Rattle.plant_workers.proofs.ReceiptsLemmas.Common.{min, MatchOption, cases_lt, lesser, IsLeastOr}
use Rattle.std.proofs.Math.Nat.{min-eq_left, min-eq_right}

pub lesser-none : (a : Option ℕ) → lesser a None ≡ a
lesser-none None = refl
lesser-none (Some a) = refl

min_cases : (a b : ℕ) → ((min a b ≡ a) × (a ≤ b)) ⊎ ((min a b ≡ b) × (b ≤ a))
min_cases a b = by (cases_lt a b)
  where
    by : (a < b) ⊎ (b ≤ a) → ((min a b ≡ a) × (a ≤ b)) ⊎ ((min a b ≡ b) × (b ≤ a))
    by (inl lt) = let le : a ≤ b = omega arith in inl (min-eq_left le, le)
    by (inr le) = inr (min-eq_right le, le)

least_assoc : (a b c : ℕ) → min (min a b) c ≡ min a (min b c)
least_assoc a b c = omega arith

pub lesser_assoc : (a b c : Option ℕ) → lesser (lesser a b) c ≡ lesser a (lesser b c)
lesser_assoc None b c = refl
lesser_assoc (Some a) None c = refl
lesser_assoc (Some a) (Some b) None = refl
lesser_assoc (Some a) (Some b) (Some c) = ap (λ (n : ℕ). Some n) (least_assoc a b c)

module _ (P Q : ℕ → Type 0) (A B : Type 0) where
  -- the lesser of the least of either is the least of both
  pub least_both : (a b : Option ℕ) → IsLeastOr P A a → IsLeastOr Q B b → IsLeastOr (λ k. P k ⊎ Q k) (A × B) (lesser a b)
  least_both None None p q = ((p.0, q.0), λ k h. ⊎_elim (p.1 k) (q.1 k) h)
  least_both None (Some b) p q = (inr q.0, λ k lt h. ⊎_elim (p.1 k) (q.1 k lt) h)
  least_both (Some a) None p q = (inl p.0, λ k lt h. ⊎_elim (p.1 k lt) (q.1 k) h)
  least_both (Some a) (Some b) p q = by (min_cases a b)
    where
      by : ((min a b ≡ a) × (a ≤ b)) ⊎ ((min a b ≡ b) × (b ≤ a)) → IsLeastOr (λ k. P k ⊎ Q k) (A × B) (Some (min a b))
      by (inl is) = (inl (subst P (sym is.0) p.0), λ k lt h. ⊎_elim (p.1 k (omega (arith, lt, is.0))) (q.1 k (omega (arith, lt, is.0, is.1))) h)
      by (inr is) = (inr (subst Q (sym is.0) q.0), λ k lt h. ⊎_elim (p.1 k (omega (arith, lt, is.0, is.1))) (q.1 k (omega (arith, lt, is.0))) h)

-- of one number alone
pub least_alone : (n : ℕ) (S well : Type 0) (o : Option ℕ) → (well → ¬ S) → MatchOption o well (λ index. (n ≡ index) × S) → IsLeastOr (λ k. (n ≡ k) × S) well o
least_alone n S well None not h = (h, λ k s. not h s.1)
least_alone n S well (Some index) not h = (h, λ k lt s. omega (arith, lt, s.0, h.0))
