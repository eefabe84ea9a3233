-- The first number that ascending numbers leave out (implementation-specific).
use Rattle.std.specs.Prelude.{ℕ, suc, cond, nat_lt, nat_eq, List, [], ◌∷◌}

-- the first number from n on that ascending numbers leave out
abbrev pub gap_from : ℕ → List ℕ → ℕ
gap_from n [] = n
gap_from n (k ∷ ks) = cond (nat_lt n k) n (cond (nat_eq k n) (gap_from (suc n) ks) (gap_from n ks))
