-- which number of a range is free, and which of the free ones is the least.
use Rattle.std.specs.Prelude.{ℕ, zero, suc, ◌-◌, ◌≤◌, nat_eq, Bool, true, false, List, Option, Some, None}
use Rattle.std.specs.List.{Contains}
use Rattle.std.specs.Set.{is_member}

-- the numbers from `first` to `last`, both included
pub record Numbers : Type 0 where
  pub first : ℕ
  pub last : ℕ

-- n is a number of the range
abbrev pub IsIn : Numbers → ℕ → Type 0
IsIn range n = (range.first ≤ n) × (n ≤ range.last)

-- n is a number of the range, and not a used one
pub record IsFree (range : Numbers) (used : List ℕ) (n : ℕ) : Type 0 where
  pub first_at_most : range.first ≤ n
  pub at_most_last : n ≤ range.last
  pub unused : ¬ Contains used n

-- n is free, and no lesser number of the range is
pub record IsLeastFree (range : Numbers) (used : List ℕ) (n : ℕ) : Type 0 where
  pub free : IsFree range used n
  pub least : (m : ℕ) → IsFree range used m → n ≤ m

-- whether n is a used number
abbrev pub is_used : List ℕ → ℕ → Bool
is_used used n = is_member nat_eq used n

-- the first of the `count` numbers from n on that is not used
unfoldable pub first_free : ℕ → ℕ → List ℕ → Option ℕ
first_free zero n used = None
first_free (suc count) n used = elim (is_used used n) [ true ↦ first_free count (suc n) used | false ↦ Some n ]

-- the least free number of the range, as a function; none where all are used
unfoldable pub least_free_of : Numbers → List ℕ → Option ℕ
least_free_of range used = first_free (suc range.last - range.first) range.first used
