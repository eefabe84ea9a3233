-- The first test that is true.
use Rattle.std.proofs.Common.{◌≡◌, ℕ, Bool, true, false, List, [], ◌∷◌, refl}
use Rattle.param_sets.proofs.Common.{None, first_true}

-- no test is true
abbrev pub AreFalse : List (Bool × ℕ) → Type 0
AreFalse [] = Unit {0}
AreFalse (row ∷ rows) = (row.0 ≡ false) × AreFalse rows

none_is_true-step : (test : Bool) (number : ℕ) (rows : List (Bool × ℕ)) → (first_true rows ≡ None → AreFalse rows) → first_true ((test, number) ∷ rows) ≡ None → AreFalse ((test, number) ∷ rows)
none_is_true-step true number rows after none = cc
none_is_true-step false number rows after none = (refl, after none)

pub none_is_true : (rows : List (Bool × ℕ)) → first_true rows ≡ None → AreFalse rows
none_is_true [] none = tt
none_is_true (row ∷ rows) none = none_is_true-step row.0 row.1 rows (none_is_true rows) none

all_are_false-step : (test : Bool) (number : ℕ) (rows : List (Bool × ℕ)) → test ≡ false → first_true rows ≡ None → first_true ((test, number) ∷ rows) ≡ None
all_are_false-step true number rows here after = cc
all_are_false-step false number rows here after = after

pub all_are_false : (rows : List (Bool × ℕ)) → AreFalse rows → first_true rows ≡ None
all_are_false [] tests = refl
all_are_false (row ∷ rows) tests = all_are_false-step row.0 row.1 rows tests.0 (all_are_false rows tests.1)
