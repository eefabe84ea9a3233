-- the ledger of what the flows of one operator have committed.
use Rattle.std.specs.Prelude.{ℕ, ◌<◌, ◌^◌, List, sum_by, IsSome}
use Rattle.std.specs.Ordering.{nat_cmp}
use Rattle.std.specs.List.Sorted.{IsStrictlySortedBy}
use Rattle.std.specs.Map.{lookup, keys_of}
use Rattle.std.specs.BTreeMap.{is_at}
use Rattle.admission.specs.declared.budget.Budget.{Budget}

-- what contracts see of a ledger: for how many rows there is room, and its rows in ascending order of SFID, each with its budget
pub record LedgerView : Type 0 where
  pub room : ℕ
  pub rows : List (ℕ × Budget)

-- the minislots of all rows
abbrev pub total_minislots : List (ℕ × Budget) → ℕ
total_minislots rows = sum_by (λ row. row.1.minislots) rows

-- the elements of all rows
abbrev pub total_elements : List (ℕ × Budget) → ℕ
total_elements rows = sum_by (λ row. row.1.elements) rows

-- a row of this SFID exists
abbrev pub HasRow : List (ℕ × Budget) → ℕ → Type 0
HasRow rows sfid = IsSome (lookup (is_at (nat_cmp sfid)) rows)

-- each SFID is below those of the later rows
abbrev pub IsAscending : List (ℕ × Budget) → Type 0
IsAscending rows = IsStrictlySortedBy nat_cmp (keys_of rows)

-- both numbers of the budget are those of a `u32`
pub record FitsU32 (budget : Budget) : Type 0 where
  pub minislots : budget.minislots < 2 ^ 32
  pub elements : budget.elements < 2 ^ 32
